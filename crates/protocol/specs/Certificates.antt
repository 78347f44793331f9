-- Certificates: of a finished operation, the facts of the past that its answer rests on.
use Rattle.std.specs.Prelude.{◌≡◌, ℕ, ◌<◌, ◌≤◌, Bool, true, false, cond, ◌⊎◌, List, [], ◌∷◌, ◌≢◌}
use Rattle.memory.specs.declared.cell.Cell.TheVariants.{Value}
use Rattle.protocol.specs.World.Stage.{armed}
use Rattle.protocol.specs.Events.{maker}
use Rattle.protocol.specs.Events.Event.{mark, commit, fail}
use Rattle.protocol.specs.History.{History}
use Rattle.protocol.specs.Operations.{Expected, Request, Answer, Finished}
use Rattle.protocol.specs.Operations.Request.{read, ll, sc, snapshot, kcss}
use Rattle.protocol.specs.Operations.Answer.{values, said}
use Rattle.protocol.specs.Lists.{◌∈◌}
use Rattle.protocol.specs.Seen.{AllSeen, SeenExpected, SeenDiffering}

-- The effect is a step of the operation's own process, not past its last step, and from the effect to that step no
-- other operation of the process ended.
pub record Timed {V : Type 0} (history : History V) (ended : List (Finished V)) (done : Finished V) : Type 0 where
  pub in_time : done.effect ≤ done.last
  pub own_step : maker (history.event done.effect) ≡ done.process
  pub undisturbed : (other : Finished V) → other ∈ ended → other.process ≡ done.process
      → done.effect ≤ other.last → other.last < done.last → ⊥

-- An operation of the kind neither makes nor ends a link.
abbrev pub KeepsLink : {V : Type 0} → Request V → Type 0
KeepsLink (read location) = Unit {0}
KeepsLink (ll location) = ⊥
KeepsLink (sc location new) = ⊥
KeepsLink (snapshot locations) = Unit {0}
KeepsLink (kcss first others new) = Unit {0}

-- The LL of an SC: a finished LL of the same process and location, whose effect put its mark with the tag that the
-- process still has at the SC's effect; between the two effects no LL or SC of the process takes effect.
pub record ItsLl {V : Type 0} (history : History V) (ended : List (Finished V)) (done : Finished V) (location : ℕ)
    : Type 0 where
  pub linking : Finished V
  pub value : V
  pub is_listed : linking ∈ ended
  pub same_process : linking.process ≡ done.process
  pub asked : linking.request ≡ ll location
  pub before : linking.effect < done.effect
  pub marked : history.event linking.effect ≡ mark done.process location value
  pub same_tag : (history.at linking.effect).tag done.process ≡ (history.at done.effect).tag done.process
  pub latest : (other : Finished V) → other ∈ ended → other.process ≡ done.process
      → linking.effect < other.effect → other.effect < done.effect → KeepsLink other.request

-- SC: its effect is its last step, its CAS, which committed for a yes and failed for a no.
pub record ScShown {V : Type 0} (history : History V) (ended : List (Finished V)) (done : Finished V) (location : ℕ)
    (new : V) (agreed : Bool) : Type 0 where
  pub at_once : done.last ≡ done.effect
  pub its_cas : history.event done.effect
      ≡ cond agreed (commit done.process location new) (fail done.process location)
  pub its_ll : ItsLl history ended done location

-- KCSS that said yes: at its effect it was armed with the expected value saved, and its last step committed with the
-- same tag; the other locations were seen with their expected values.
pub record KcssYes {V : Type 0} (history : History V) (done : Finished V) (first : Expected V)
    (others : List (Expected V)) (new : V) : Type 0 where
  pub commits : history.event done.last ≡ commit done.process first.location new
  pub same_tag : (history.at done.effect).tag done.process ≡ (history.at done.last).tag done.process
  pub noted : (history.at done.effect).stage done.process ≡ armed first.location
  pub expected : (history.at done.effect).saved done.process ≡ Value first.value
  pub seen : SeenExpected history done.effect others

-- KCSS that said no: its effect put its mark where another value than the expected one stood, or some other location
-- was seen with another value than its expected one.
abbrev pub KcssNo : {V : Type 0} → History V → Finished V → Expected V → List (Expected V) → Type 0
KcssNo {V = V} history done first others =
    ((value : V) × (history.event done.effect ≡ mark done.process first.location value)
    × (value ≢ first.value))
    ⊎ SeenDiffering history done.effect others

-- What an answer rests on. READ: at its effect the value was in val. LL: its effect put its mark where the value was.
-- SNAPSHOT: each location was seen with its value. SC and KCSS as above.
abbrev pub Shown : {V : Type 0} → History V → List (Finished V) → Finished V → Request V → Answer V → Type 0
Shown {V = V} history ended done (read location) (values answered) =
    (value : V) × (answered ≡ value ∷ []) × ((history.at done.effect).val location ≡ Value value)
Shown history ended done (read location) (said agreed) = ⊥
Shown {V = V} history ended done (ll location) (values answered) =
    (value : V) × (answered ≡ value ∷ []) × (history.event done.effect ≡ mark done.process location value)
Shown history ended done (ll location) (said agreed) = ⊥
Shown history ended done (sc location new) (values answered) = ⊥
Shown history ended done (sc location new) (said agreed) = ScShown history ended done location new agreed
Shown history ended done (snapshot locations) (values answered) =
    AllSeen history done.effect locations answered
Shown history ended done (snapshot locations) (said agreed) = ⊥
Shown history ended done (kcss first others new) (values answered) = ⊥
Shown history ended done (kcss first others new) (said true) = KcssYes history done first others new
Shown history ended done (kcss first others new) (said false) = KcssNo history done first others

-- The certificate of a finished operation.
pub record Certificate {V : Type 0} (history : History V) (ended : List (Finished V)) (done : Finished V)
    : Type 0 where
  pub timed : Timed history ended done
  pub shown : Shown history ended done done.request done.answer
