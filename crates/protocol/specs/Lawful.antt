-- The law of every run.
use Rattle.std.specs.Prelude.{◌≡◌, ℕ, ◌<◌, ◌≤◌, false}
use Rattle.std.proofs.Math.Option.{some}
use Rattle.protocol.specs.World.{own_id, Stands}
use Rattle.protocol.specs.Events.Event.{mark, reset}
use Rattle.protocol.specs.Operations.{Request, Answer, Finished}
use Rattle.protocol.specs.Operations.Request.{ll, sc}
use Rattle.protocol.specs.Operations.Answer.{said}
use Rattle.protocol.specs.Store.{Store, opened_store}
use Rattle.protocol.specs.Replay.{Replays}
use Rattle.protocol.specs.Lists.{◌∈◌, Once, by_effect, Ascending}
use Rattle.protocol.specs.Certificates.{KeepsLink}
use Rattle.protocol.specs.Phases.Done.{done}
use Rattle.protocol.specs.Runs.{world, WasGiven, Run, Makes, IsLineOf, finished}

-- A finished operation has exactly the request that its process was given by a Start, when step start was next. From then
-- until its last step the process was given nothing else and ended nothing: so every line that it made is a step of this
-- operation. The first of these lines is the operation's first step. Its effect is one of them, from the first to the
-- last, which ended it with the answer and effect told.
pub record Belongs {V : Type 0} (run : Run V) (n : ℕ) (one : Finished V) : Type 0 where
  pub start : ℕ
  pub was_given : WasGiven one.process one.request (run.starts start)
  pub given_once : (t : ℕ) (request : Request V) → start < t → t ≤ one.last
      → WasGiven one.process request (run.starts t) → ⊥
  pub given_only : (t : ℕ) (request : Request V) → start ≤ t → t ≤ one.last
      → WasGiven one.process request (run.starts t) → (t ≡ start) × (request ≡ one.request)
  pub ended_once : (other : Finished V) → other ∈ finished run n → other.process ≡ one.process
      → start ≤ other.last → other.last < one.last → ⊥
  pub first : ℕ
  pub first_after_start : start ≤ first
  pub first_is_line : IsLineOf run first one.process
  pub none_before : (t : ℕ) → start ≤ t → t < first → IsLineOf run t one.process → ⊥
  pub from_first : first ≤ one.effect
  pub after_start : start ≤ one.effect
  pub in_time : one.effect ≤ one.last
  pub own_effect : run.who one.effect ≡ one.process
  pub effect_is_line : Makes run one.effect one.process
  pub effect_is_own_line : IsLineOf run one.effect one.process
  pub own_end : run.who one.last ≡ one.process
  pub last_is_line : IsLineOf run one.last one.process
  pub before_n : one.last < n
  pub ends : run.out one.last ≡ some (done one.request one.answer one.effect)

-- Why an SC said no. Its LL is the last of its process before it, with no SC between, and put its mark by its effect, an
-- 8 that said yes. After that step and before the SC's own, a line of some process reset that mark. If the SC's own
-- process made that line, then after the LL ended and before the SC was given: so it is a step of another operation than
-- these two.
pub record LostToReset {V : Type 0} (run : Run V) (n : ℕ) (one : Finished V) (location start : ℕ) : Type 0 where
  pub linking : Finished V
  pub is_listed : linking ∈ finished run n
  pub same_process : linking.process ≡ one.process
  pub asked : linking.request ≡ ll location
  pub value : V
  pub marked : run.event linking.effect ≡ mark one.process location value
  pub latest : (other : Finished V) → other ∈ finished run n → other.process ≡ one.process
      → linking.effect < other.effect → other.effect < one.effect → KeepsLink other.request
  pub step : ℕ
  pub by_process : ℕ
  pub saved : V
  pub after_mark : linking.effect < step
  pub before_end : step < one.effect
  pub made_by : IsLineOf run step by_process
  pub resets : run.event step ≡ reset by_process location saved
  pub its_mark : (world (run.at step)).val location ≡ own_id (world (run.at linking.effect)) one.process
  pub by_another : by_process ≡ one.process → (linking.last < step) × (step < start)

-- The finished operations of the first n steps, in the order by effect: every operation that ended is listed, no other
-- is, and none twice; the effects ascend, no two operations with one. The store allows each in its turn, from the
-- initial values, and then holds what every location stands for. Each has the request of its Start and an effect from its
-- first step to its last. An SC said no only after a reset of its mark by another operation.
pub record Law {V : Type 0} (run : Run V) (n : ℕ) : Type 0 where
  pub every : (t : ℕ) (request : Request V) (answer : Answer V) (effect : ℕ) → t < n
      → run.out t ≡ some (done request answer effect)
      → record { process = run.who t; request = request; answer = answer; effect = effect; last = t }
      ∈ by_effect (finished run n)
  pub all : (one : Finished V) → one ∈ finished run n → one ∈ by_effect (finished run n)
  pub only : (one : Finished V) → one ∈ by_effect (finished run n) → one ∈ finished run n
  pub once : Once (by_effect (finished run n))
  pub ascending : Ascending (by_effect (finished run n))
  pub distinct : (one other : Finished V) → one ∈ finished run n → other ∈ finished run n
      → one.effect ≡ other.effect → one ≡ other
  pub store : Store V
  pub replays : Replays (opened_store run.initial) (by_effect (finished run n)) store
  pub stands : (location : ℕ) → Stands (world (run.at n)) location (store.value location)
  pub belongs : (one : Finished V) → one ∈ finished run n → Belongs run n one
  pub failures : (one : Finished V) (location : ℕ) (new : V) (listed : one ∈ finished run n)
      → one.request ≡ sc location new → one.answer ≡ said false
      → LostToReset run n one location (belongs one listed).start

-- The law holds of the first n steps of every run, for every n.
abbrev pub RunLaw : Type 0 → Type 0
RunLaw V = (run : Run V) (n : ℕ) → Law run n
