use Rattle.std.proofs.Common.{◌≡◌, ◌++◌, OnOk, subst}
use Rattle.std.proofs.lemmas.List.{take-replicate}
use Rattle.th_columns.specs.Columns.{widest}
use Rattle.th_columns.proofs.columns.Page.add_spaces.Goals as goal

pub returns : goal.returns
returns c =
    subst (λ spaces. OnOk c.add.result (c.add.new.self ≡ c.args.self.now ++ spaces))
    (take-replicate c.args.count widest 32 c.requires) c.add.ensures
