-- What a finished operation does to the one-at-a-time store, and the replay of a list of them.
use Rattle.std.specs.Prelude.{◌≡◌, ℕ, true, false, cond, List, [], ◌∷◌, ◌==◌}
use Rattle.protocol.specs.World.{changed}
use Rattle.protocol.specs.Operations.{Request, Answer, Finished}
use Rattle.protocol.specs.Operations.Request.{read, ll, sc, snapshot, kcss}
use Rattle.protocol.specs.Operations.Answer.{values, said}
use Rattle.protocol.specs.Store.{Link, Store, Allows}
use Rattle.protocol.specs.Store.Link.{unlinked, whole, broken}

-- What an operation changes: no value, or one location's to a new one.
pub data Change (V : Type 0) : Type 0 where
  nothing : Change V
  set : (location : ℕ) (new : V) → Change V

-- A yes of SC sets its location to the new value, a yes of KCSS its first location.
abbrev pub yes_sets : {V : Type 0} → Request V → Change V
yes_sets (read location) = nothing
yes_sets (ll location) = nothing
yes_sets (sc location new) = set location new
yes_sets (snapshot locations) = nothing
yes_sets (kcss first others new) = set first.location new

-- Nothing but a yes changes a value.
abbrev pub change : {V : Type 0} → Request V → Answer V → Change V
change asked (values answered) = nothing
change asked (said true) = yes_sets asked
change asked (said false) = nothing

-- The values after a change.
abbrev pub change_values : {V : Type 0} → Change V → (ℕ → V) → ℕ → V
change_values nothing row = row
change_values (set location new) row = changed row location new

-- LL makes a whole link; SC ends the link of its process, whatever it says. The others leave it.
abbrev pub relink : {V : Type 0} → (process : ℕ) → Request V → (ℕ → Link) → ℕ → Link
relink process (read location) links = links
relink process (ll location) links = changed links process (whole location)
relink process (sc location new) links = changed links process unlinked
relink process (snapshot locations) links = links
relink process (kcss first others new) links = links

-- A whole link to the location breaks; every other link stays.
abbrev pub break_link : (location : ℕ) → Link → Link
break_link location unlinked = unlinked
break_link location (whole other) = cond (other == location) (broken other) (whole other)
break_link location (broken other) = broken other

-- A yes of SC or KCSS breaks all whole links to the location that it sets.
abbrev pub break_links : {V : Type 0} → Change V → Link → Link
break_links nothing link = link
break_links (set location new) link = break_link location link

-- The store after a finished operation. It looks at process, request and answer alone.
abbrev pub store_after : {V : Type 0} → Finished V → Store V → Store V
store_after done store = record {
  value = change_values (change done.request done.answer) store.value;
  link = λ process.
      break_links (change done.request done.answer) (relink done.process done.request store.link process);
}

-- Fed the operations in turn, the store allows each, and ends as the second store.
pub data Replays {V : Type 0} : Store V → List (Finished V) → Store V → Type 0 where
  at_end : (store : Store V) → Replays store [] store
  then_on : (store : Store V) (done : Finished V) (more : List (Finished V)) (end : Store V)
      → Allows store done.process done.request done.answer
      → Replays (store_after done store) more end
      → Replays store (done ∷ more) end

-- The same by recursion: each operation is allowed in its turn.
abbrev pub Lawful : {V : Type 0} → Store V → List (Finished V) → Type 0
Lawful store [] = Unit {0}
Lawful store (done ∷ more) =
    Allows store done.process done.request done.answer × Lawful (store_after done store) more

-- And the store that they leave.
abbrev pub store_after_all : {V : Type 0} → Store V → List (Finished V) → Store V
store_after_all store [] = store
store_after_all store (done ∷ more) = store_after_all (store_after done store) more

-- Both say the same.
pub record Agree {V : Type 0} (store : Store V) (operations : List (Finished V)) : Type 0 where
  pub lawful : (end : Store V) → Replays store operations end → Lawful store operations
  pub ends_so : (end : Store V) → Replays store operations end → store_after_all store operations ≡ end
  pub replays : Lawful store operations → Replays store operations (store_after_all store operations)

-- Both ways to replay say the same of every store and every list of operations.
abbrev pub ReplaysAgree : Type 0 → Type 0
ReplaysAgree V = (store : Store V) (operations : List (Finished V)) → Agree store operations
