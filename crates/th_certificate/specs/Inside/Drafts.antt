use Rattle.std.specs.Prelude.{◌≡◌, ◌≤◌, ◌<◌, ℕ, ℤ, List, None, IfSome, bytes_eq, length, unsigned_abs}
use Rattle.std.specs.Map.{lookup}
use Rattle.th_certificate.specs.Certified.{AreFlows, HeightRows, cost_limit, flow_limit}
use Rattle.th_network.specs.Limits.{height_limit}
use Rattle.th_certificate.specs.Limits.{max_flows}
use Rattle.th_certificate.specs.Statements.{Draft}
use Rattle.th_certificate.specs.declared.statements.Statement.{Statement}
use Rattle.th_certificate.specs.declared.statements.Statement.TheVariants.{Height, Low, High, Flow, Cost}

-- a draft has a known version, flows in their range, at most as many as were counted, and if it has a cost, one in its range
pub record IsDraft (draft : Draft) : Type 0 where
  pub known : (1 ≤ draft.version) × (draft.version ≤ 2)
  pub few : draft.count ≤ max_flows
  pub counted : length draft.flows ≤ draft.count
  pub flows : AreFlows draft.flows
  pub cost : IfSome draft.cost (λ cost. cost < cost_limit)

-- a row with a new name and a height in its range
pub record IsNewRow (rows : HeightRows) (name : List ℕ) (height : ℤ) : Type 0 where
  pub new : lookup (bytes_eq name) rows ≡ None
  pub in_range : unsigned_abs height < height_limit

-- the statement may follow a draft: its name is new, there is room for its flow, and its number is in its range
abbrev pub Follows : Draft → Statement → Type 0
Follows draft (Height name height) = IsNewRow draft.heights name height
Follows draft (Low name height) = IsNewRow draft.low name height
Follows draft (High name height) = IsNewRow draft.high name height
Follows draft (Flow flow) = (length draft.flows < draft.count) × (unsigned_abs flow < flow_limit)
Follows draft (Cost cost) = cost < cost_limit
