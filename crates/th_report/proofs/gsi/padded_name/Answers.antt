use Rattle.std.proofs.Common.{◌≡◌, ◌≤◌, ◌-◌, List, ℕ, length, replicate, ap, ◌∙◌}
use borrow.Rule.Slice.PartMut.{put_mid}
use Rattle.std.specs.List.{list_all}
use Rattle.gsi_word.specs.Bytes.{is_data}
use Rattle.th_report.specs.Gsi.{padded_name}
use Rattle.th_report.proofs.NameLemmas.{name_printable, name_short, put-padded, zeros_before}
use Rattle.th_report.proofs.gsi.padded_name.Goals as goal

-- the bytes that are answered, where the name was written
written : (name bytes new : List ℕ) → bytes ≡ name → new ≡ bytes → length name ≤ 16 → put_mid (16 - length bytes) (16 - (16 - length bytes)) (replicate 16 48) new ≡ padded_name name
written name bytes new same after short =
    ap (put_mid (16 - length bytes) (16 - (16 - length bytes)) (replicate 16 48)) (after ∙ same)
    ∙ ap (λ (bytes : List ℕ). put_mid (16 - length bytes) (16 - (16 - length bytes)) (replicate 16 48) name) same
    ∙ put-padded name short

pub returns-clause-value : goal.returns-clause-value
returns-clause-value c =
    let name = c.args.name.now in
    written name c.as_bytes-bytes.result.now c.copy_from_slice.new.self c.as_bytes-bytes.ensures.bytes c.copy_from_slice.ensures.after (name_short name name c.as_bytes-bytes.ensures.reduced)

pub returns-clause-data : goal.returns-clause-data
returns-clause-data c =
    let name = c.args.name.now in
    let reduced = c.as_bytes-bytes.ensures.reduced in
    ap (list_all is_data) (written name c.as_bytes-bytes.result.now c.copy_from_slice.new.self c.as_bytes-bytes.ensures.bytes c.copy_from_slice.ensures.after (name_short name name reduced))
    ∙ name_printable (padded_name name) name (zeros_before (16 - length name) name name reduced)
