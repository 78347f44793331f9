-- The one-at-a-time store: what it holds, and which answers it allows.
use Rattle.std.specs.Prelude.{◌≡◌, ℕ, true, false, ◌⊎◌, List, [], ◌∷◌, map, ◌≢◌}
use Rattle.protocol.specs.Operations.{Expected, Request, Answer}
use Rattle.protocol.specs.Operations.Request.{read, ll, sc, snapshot, kcss}
use Rattle.protocol.specs.Operations.Answer.{values, said}

-- A process has no link, a whole link or a broken link to a location.
pub data Link : Type 0 where
  unlinked : Link
  whole : (location : ℕ) → Link
  broken : (location : ℕ) → Link

-- A value for each location, and a link for each process.
pub record Store (V : Type 0) : Type 0 where
  pub value : ℕ → V
  pub link : ℕ → Link

-- It starts with the initial values and no links.
abbrev pub opened_store : {V : Type 0} → (ℕ → V) → Store V
opened_store initial = record { value = initial; link = λ process. unlinked }

-- Each location has its expected value.
abbrev pub AsExpected : {V : Type 0} → Store V → List (Expected V) → Type 0
AsExpected store [] = Unit {0}
AsExpected store (one ∷ more) = (store.value one.location ≡ one.value) × AsExpected store more

-- The value of some location differs from its expected one.
abbrev pub SomeDiffers : {V : Type 0} → Store V → List (Expected V) → Type 0
SomeDiffers store [] = ⊥
SomeDiffers store (one ∷ more) = (store.value one.location ≢ one.value) ⊎ SomeDiffers store more

-- What the store allows. READ, LL and SNAPSHOT answer its values of their locations, in turn. SC may say yes only on
-- a whole link to its location, and may always say no. KCSS says no exactly when some value differs from its expected
-- one.
abbrev pub Allows : {V : Type 0} → Store V → (process : ℕ) → Request V → Answer V → Type 0
Allows store process (read location) (values answered) = answered ≡ map store.value (location ∷ [])
Allows store process (read location) (said agreed) = ⊥
Allows store process (ll location) (values answered) = answered ≡ map store.value (location ∷ [])
Allows store process (ll location) (said agreed) = ⊥
Allows store process (sc location new) (values answered) = ⊥
Allows store process (sc location new) (said true) = store.link process ≡ whole location
Allows store process (sc location new) (said false) = Unit {0}
Allows store process (snapshot locations) (values answered) = answered ≡ map store.value locations
Allows store process (snapshot locations) (said agreed) = ⊥
Allows store process (kcss first others new) (values answered) = ⊥
Allows store process (kcss first others new) (said true) = AsExpected store (first ∷ others)
Allows store process (kcss first others new) (said false) = SomeDiffers store (first ∷ others)
