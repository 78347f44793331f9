-- Which requests a process can be given.
use Rattle.std.specs.Prelude.{◌≡◌, ℕ, List, [], ◌∷◌, ◌≢◌}
use Rattle.std.proofs.Math.Option.{Option, some, none}
use Rattle.protocol.specs.Operations.{Expected, Request, named}
use Rattle.protocol.specs.Operations.Request.{read, ll, sc, snapshot, kcss}
use Rattle.protocol.specs.Phases.{Process, asked}
use Rattle.protocol.specs.Phases.Phase.{resting}
use Rattle.protocol.specs.Phases.Process.{proc}
use Rattle.protocol.specs.Runs.{Begins}

-- When step t is next, the process can be given the request.
abbrev pub CanBegin : {V : Type 0} → ℕ → Process V → Request V → Type 0
CanBegin {V = V} t r q = (next : Process V) × Begins t r q next

-- Whatever its tag: any READ, and a SNAPSHOT of any locations, one or more, with a link or without; any LL and any KCSS
-- without a link; any SC of the location that it has a link to.
pub record OpenTo (V : Type 0) (t n b : ℕ) : Type 0 where
  pub to_read : (l : Option ℕ) (a : ℕ) → CanBegin {V = V} t (proc n l b resting) (read a)
  pub to_ll : (a : ℕ) → CanBegin {V = V} t (proc n none b resting) (ll a)
  pub to_sc : (a : ℕ) (u : V) → CanBegin t (proc n (some a) b resting) (sc a u)
  pub to_snapshot : (l : Option ℕ) (a : ℕ) (more : List ℕ)
      → CanBegin {V = V} t (proc n l b resting) (snapshot (a ∷ more))
  pub to_kcss : (first : Expected V) (others : List (Expected V)) (u : V)
      → CanBegin t (proc n none b resting) (kcss first others u)

-- So it is if there is a value at all.
abbrev pub StartsAreOpen : Type 0 → Type 0
StartsAreOpen V = V → (t n b : ℕ) → OpenTo V t n b

-- READ and SNAPSHOT may be given with a link or without; LL and KCSS without one; SC with a link to its location.
abbrev pub LinkAllows : {V : Type 0} → Option ℕ → Request V → Type 0
LinkAllows link (read a) = Unit {0}
LinkAllows link (ll a) = link ≡ none
LinkAllows link (sc a u) = link ≡ some a
LinkAllows link (snapshot locations) = Unit {0}
LinkAllows link (kcss first others u) = link ≡ none

-- The process rests, its link allows the request, and the request names one location or more.
abbrev pub Allowed : {V : Type 0} → Process V → Request V → Type 0
Allowed (proc n l b ph) q = (ph ≡ resting) × LinkAllows l q × (named q ≢ [])

-- If there is a value at all, a process can be given every request that is allowed; it is given no other; and what it is
-- given is what it is asked then.
pub record StartsExactly (V : Type 0) : Type 0 where
  pub every : V → (t : ℕ) (r : Process V) (q : Request V) → Allowed r q → CanBegin t r q
  pub no_other : (t : ℕ) (r next : Process V) (q : Request V) → Begins t r q next → Allowed r q
  pub asks : (t : ℕ) (r next : Process V) (q : Request V) → Begins t r q next → asked next ≡ some q
