-- What a writer of `csv` over memory holds, and its state.
use Rattle.std.specs.Prelude.{◌≡◌, ◌++◌, ℕ, List, Vec, false, true}
use Rattle.std.specs.declared.alloc.Global.{Global}
use Rattle.csv.specs.Writing.{default_writer, fields_written, has_written, with_flexible, writer_pending, writer_setup, writer_under}
use Rattle.csv.specs.declared.writer.Writer.{Writer}

-- a writer over memory
abbrev pub MemoryWriter : Type 0
MemoryWriter = Writer (Vec ℕ Global)

-- the text written so far: what the writer has passed on, then what it still buffers
abbrev pub text_in : MemoryWriter → List ℕ
text_in writer = (writer_under writer).items ++ writer_pending writer

-- the writer has the defaults of `csv`, except that rows may differ in length, and it is between two rows
pub record IsReady (writer : MemoryWriter) : Type 0 where
  pub settings : writer_setup writer ≡ with_flexible default_writer true
  pub no_field : fields_written writer ≡ 0
  pub no_byte : has_written writer ≡ false
