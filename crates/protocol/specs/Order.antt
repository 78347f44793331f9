-- The law of the order by effect.
use Rattle.std.specs.Prelude.{◌≡◌, ℕ, ◌<◌, false, List}
use Rattle.protocol.specs.World.{own_id, Stands}
use Rattle.protocol.specs.Events.Event.{reset}
use Rattle.protocol.specs.History.{History}
use Rattle.protocol.specs.Operations.{Finished}
use Rattle.protocol.specs.Operations.Request.{sc}
use Rattle.protocol.specs.Operations.Answer.{said}
use Rattle.protocol.specs.Store.{Store, opened_store}
use Rattle.protocol.specs.Replay.{Replays}
use Rattle.protocol.specs.Lists.{◌∈◌, by_effect, Ascending}
use Rattle.protocol.specs.Certificates.{ItsLl}
use Rattle.protocol.specs.Certified.{Certified, AtRest}

-- Why an SC said no: after the mark that its LL put, and before its own step, a step of some process reset that mark.
pub record MarkWasReset {V : Type 0} (history : History V) (ended : List (Finished V)) (done : Finished V)
    (location : ℕ) : Type 0 where
  pub its_ll : ItsLl history ended done location
  pub step : ℕ
  pub by_process : ℕ
  pub value : V
  pub after_mark : its_ll.linking.effect < step
  pub before_end : step < done.effect
  pub resets : history.event step ≡ reset by_process location value
  pub its_mark : (history.at step).val location ≡ own_id (history.at its_ll.linking.effect) done.process

-- In the order by effect stand the same operations, and no two of them take effect at one step. The store allows each
-- in its turn, and then holds what every location stands for. An SC said no only after a reset of its mark.
pub record Ordered {V : Type 0} (history : History V) (ended : List (Finished V)) (from : ℕ) : Type 0 where
  pub all : (done : Finished V) → done ∈ ended → done ∈ by_effect ended
  pub only : (done : Finished V) → done ∈ by_effect ended → done ∈ ended
  pub ascending : Ascending (by_effect ended)
  pub distinct : (done other : Finished V) → done ∈ ended → other ∈ ended → done.effect ≡ other.effect → done ≡ other
  pub store : Store V
  pub replays : Replays (opened_store history.initial) (by_effect ended) store
  pub stands : (location : ℕ) → Stands (history.at from) location (store.value location)
  pub failures : (done : Finished V) (location : ℕ) (new : V) → done ∈ ended
      → done.request ≡ sc location new → done.answer ≡ said false
      → MarkWasReset history ended done location

-- So it is in every history that has come to rest.
abbrev pub OrderLaw : Type 0 → Type 0
OrderLaw V = (history : History V) (ended : List (Finished V)) (from : ℕ)
    → Certified history ended → AtRest history ended from → Ordered history ended from
