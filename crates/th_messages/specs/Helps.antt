-- The second line of a refusal.
use Rattle.std.specs.Prelude.{ℕ, List, [], ◌∷◌, ◌++◌, Option, Some, None, codes}
use Rattle.th_devices.specs.declared.reasons.Reason.{Reason}
use Rattle.th_devices.specs.declared.reasons.Reason.TheVariants.{NotFound, IsFolder, NoFile, NotPermitted, NoSpace, ReadOnly, NameTooLong, ClosedPipe, LeadsNowhere, DeviceFault, OtherSystem, InUse, TooManyOpen, OtherRun}
use Rattle.th_messages.specs.declared.helps.FileName.{FileName}
use Rattle.th_inputs.specs.Shown.{shown}

-- the name of a file, whose end the program may have added
abbrev pub whole_name : FileName → List ℕ
whole_name name = name.begin.now ++ name.end.now

-- the second line: two spaces, the file as it was given, if there is one, and what helps
abbrev pub help_line : Option (List ℕ) → List ℕ → List ℕ
help_line None help = codes "  " ++ help ++ 10 ∷ []
help_line (Some name) help = codes "  '" ++ shown name ++ codes "': " ++ help ++ 10 ∷ []

-- the same after a call of a device failed: why, if the system told it
abbrev pub reason_line : Option (List ℕ) → Option (List ℕ) → List ℕ
reason_line None None = []
reason_line None (Some reason) = help_line None reason
reason_line (Some name) None = codes "  '" ++ shown name ++ codes "'" ++ 10 ∷ []
reason_line (Some name) (Some reason) = help_line (Some name) reason

-- why an input was not read
abbrev pub read_reason : Reason → List ℕ
read_reason NotFound = codes "no such file"
read_reason IsFolder = codes "a folder"
read_reason NoFile = codes "not a file"
read_reason NotPermitted = codes "permission denied"
read_reason NoSpace = codes "no space left"
read_reason ReadOnly = codes "a read-only file system"
read_reason NameTooLong = codes "file name too long"
read_reason ClosedPipe = codes "nobody is at the other end of the pipe"
read_reason LeadsNowhere = codes "a link that leads nowhere"
read_reason DeviceFault = codes "the device failed"
read_reason OtherSystem = codes "on another file system"
read_reason InUse = codes "in use by the system"
read_reason TooManyOpen = codes "too many open files"
read_reason OtherRun = codes "another run writes here"

-- why an output was not written
abbrev pub write_reason : Reason → List ℕ
write_reason NotFound = codes "no such folder"
write_reason other = read_reason other
