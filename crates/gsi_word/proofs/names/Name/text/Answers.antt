use Rattle.std.proofs.Common.{sym, subst}
use Rattle.std.specs.Str.{IsUtf8}
use Rattle.gsi_word.proofs.NameLemmas.{IsUtf8-name}
use Rattle.gsi_word.proofs.names.Name.text.Goals as goal

pub returns-in-Err : goal.returns-in-Err
returns-in-Err c =
    absurd (c.in-Err.ensures.cases.0 (subst IsUtf8 (sym c.as_bytes.ensures.bytes) (IsUtf8-name c.args.self.now _ c.as_bytes.ensures.reduced)))
