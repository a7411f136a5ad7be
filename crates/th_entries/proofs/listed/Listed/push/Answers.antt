use Rattle.std.proofs.Common.{rules, ◌≡◌, ◌<◌, ◌≤◌, ◌+◌, ◌∷◌, ◌++◌, [], length}
use Rattle.std.specs.Prelude.{min}
use Rattle.th_entries.proofs.ListedLemmas.{listed-first, listed-full}
use Rattle.th_entries.proofs.listed.Listed.push.Goals as goal
use Rattle.th_entries.proofs.listed.Listed.push.Goals.{then-len-lt-MAX_LISTED+in_ok-push, else-len-lt-MAX_LISTED}

pub returns : goal.returns
returns g c = λ before was. elim c.if-len-lt-MAX_LISTED.branch [
  | then-len-lt-MAX_LISTED+in_ok-push w ↦
      let room : length c.args.self.now.first.items < 1000 = search rules in
      let first : c.if-len-lt-MAX_LISTED.self.first.items ≡ c.args.self.now.first.items ++ c.args.thing ∷ [] = search rules in
      let count : c.saturating_add-self.result ≡ min (c.args.self.now.count + 1) 4294967295 = search rules in
      listed-first before c.args.thing c.args.self.now _ was room first count
  | else-len-lt-MAX_LISTED w ↦
      let full : 1000 ≤ length c.args.self.now.first.items = search rules in
      let first : c.if-len-lt-MAX_LISTED.self.first.items ≡ c.args.self.now.first.items = search rules in
      let count : c.saturating_add-self.result ≡ min (c.args.self.now.count + 1) 4294967295 = search rules in
      listed-full before c.args.thing c.args.self.now _ was full first count
]
