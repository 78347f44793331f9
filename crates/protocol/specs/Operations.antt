-- Operations: what is asked of the store, what is answered, and what is known of a finished operation.
use Rattle.std.specs.Prelude.{ℕ, Bool, List, [], ◌∷◌, map}

-- A location with the value that a KCSS expects there.
pub record Expected (V : Type 0) : Type 0 where
  pub location : ℕ
  pub value : V

-- What was asked: READ and LL of a location; SC of a location, with its new value; SNAPSHOT of locations; KCSS of a
-- first location and others, each with its expected value, and the new value of the first.
pub data Request (V : Type 0) : Type 0 where
  read : (location : ℕ) → Request V
  ll : (location : ℕ) → Request V
  sc : (location : ℕ) (new : V) → Request V
  snapshot : (locations : List ℕ) → Request V
  kcss : (first : Expected V) (others : List (Expected V)) (new : V) → Request V

-- The locations that a request names, in turn.
abbrev pub named : {V : Type 0} → Request V → List ℕ
named (read location) = location ∷ []
named (ll location) = location ∷ []
named (sc location new) = location ∷ []
named (snapshot locations) = locations
named (kcss first others new) = first.location ∷ map (λ one. one.location) others

-- What was answered: values, or yes (true) or no (false).
pub data Answer (V : Type 0) : Type 0 where
  values : (answered : List V) → Answer V
  said : (agreed : Bool) → Answer V

-- A finished operation: its process, what it was asked, what it answered, and its effect step and last step.
pub record Finished (V : Type 0) : Type 0 where
  pub process : ℕ
  pub request : Request V
  pub answer : Answer V
  pub effect : ℕ
  pub last : ℕ
