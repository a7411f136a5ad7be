use Rattle.std.specs.Prelude.{◌≡◌, true, Result, OnOk}
use Rattle.th_devices.specs.Files.{FileSinkState}

-- opening a file changes only whether it is open and what it holds; it is open where this returned `Ok`
abbrev pub Opens : {X E : Type 0} → FileSinkState → FileSinkState → Result X E → Type 0
Opens old new result = OnOk result (new.opened ≡ true) × (new ≡ record old { opened = new.opened; contents = new.contents })
