-- What settling a network counts: the calls of its search, the refusals and cycles among them, and its steps.
use Rattle.std.specs.Prelude.{◌≡◌, ◌⊎◌, ℕ, ◌+◌, ◌*◌, ◌≤◌, Result, OnErr, OnOk, sum}
use Rattle.th_network.specs.Networks.{Survey, weights_of}
use Rattle.th_circulation.specs.Limits.{phases}

-- the most steps that a survey takes: twice the sum of its weights in each phase
abbrev pub most_steps : Survey → ℕ
most_steps survey = 2 * phases * sum (weights_of survey)

-- The counts of a search and of the steps, from one state to a later one, if settling has this result. Each cycle that the search named is one step, and
-- there are at most `most` steps. Besides, the search is called once in each phase, or at most as often after an error. After an error the search has
-- refused once, out of memory, or nothing was counted.
pub record IsCounted {X A E : Type 0} (calls refusals cycles : X → ℕ) (most : ℕ) (result : Result A E) (search later : X) (steps more : ℕ) : Type 0 where
  pub more_steps : steps ≤ more
  pub few_steps : more ≤ steps + most
  pub one_step_each : cycles later + steps ≡ cycles search + more
  pub all_calls : OnOk result (calls later + steps ≡ calls search + more + phases)
  pub few_calls : OnErr result (calls later + steps ≤ calls search + more + phases)
  pub asked : calls search + more ≤ calls later + steps
  pub none_refused : OnOk result (refusals later ≡ refusals search)
  pub refused : OnErr result ((refusals later ≡ refusals search + 1) ⊎ ((refusals later ≡ refusals search) × (calls later ≡ calls search) × (more ≡ steps)))
