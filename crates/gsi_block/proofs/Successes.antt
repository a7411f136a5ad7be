-- What a success says, where there is one.
use Rattle.std.proofs.Common.{Result, Ok, Err, IsOk, OnOk}

-- what a success says holds where there is one
pub at_ok : {T E P : Type 0} (result : Result T E) → IsOk result → OnOk result P → P
at_ok (Ok value) ok p = p
at_ok (Err fault) ok p = absurd cc
