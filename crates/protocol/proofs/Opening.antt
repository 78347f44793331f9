-- Every request that the link allows can be given: operands from lists. No other can.
use Rattle.std.proofs.Common.{◌≡◌, ℕ, zero, suc, List, [], ◌∷◌, sym, refl, ap, ◌∙◌, subst}
use mathlib.Core.Option.{Option, some, none}
use Rattle.protocol.specs.World.{id_cell}
use Rattle.protocol.specs.Operations.{Expected, Request, named}
use Rattle.protocol.specs.Operations.Request.{read, ll, sc, snapshot, kcss}
use Rattle.protocol.specs.Phases.{Row, Rows, Process, places, wants, asked}
use Rattle.protocol.specs.Phases.Phase.{resting}
use Rattle.protocol.specs.Phases.Process.{proc}
use Rattle.protocol.specs.Runs.{Begins}
use Rattle.protocol.specs.Runs.Begins.{begins_read, begins_ll, begins_sc, begins_snapshot, begins_kcss}
use Rattle.protocol.specs.Opening.{LinkAllows, Allowed, CanBegin, OpenTo, StartsAreOpen, StartsExactly}
use Rattle.protocol.proofs.Changes.{clash}

-- an operand with nothing found yet; v stands for a value not yet found
abbrev pub new_row : {V : Type 0} → V → Expected V → Row V
new_row v one = record { location = one.location; expected = one.value; first = v; second = v; id_first = id_cell 0 0; id_second = id_cell 0 0 }

abbrev pub rows_of : {V : Type 0} → V → List (Expected V) → Rows V
rows_of v [] i = new_row v (record { location = 0; value = v })
rows_of v (one ∷ more) zero = new_row v one
rows_of v (one ∷ more) (suc i) = rows_of v more i

abbrev pub count_of : {A : Type 0} → List A → ℕ
count_of [] = zero
count_of (one ∷ more) = suc (count_of more)

abbrev expecting : {V : Type 0} → V → List ℕ → List (Expected V)
expecting v [] = []
expecting v (a ∷ more) = record { location = a; value = v } ∷ expecting v more

wants_shift : {V : Type 0} (rows : Rows V) (i k : ℕ) → wants rows (suc i) k ≡ wants (λ j. rows (suc j)) i k
wants_shift rows i zero = refl
wants_shift rows i (suc k) = ap (λ l. record { location = (rows (suc i)).location; value = (rows (suc i)).expected } ∷ l) (wants_shift rows (suc i) k)

places_shift : {V : Type 0} (rows : Rows V) (i k : ℕ) → places rows (suc i) k ≡ places (λ j. rows (suc j)) i k
places_shift rows i zero = refl
places_shift rows i (suc k) = ap (λ l. (rows (suc i)).location ∷ l) (places_shift rows (suc i) k)

pub wants_of : {V : Type 0} (v : V) (list : List (Expected V)) → wants (rows_of v list) 0 (count_of list) ≡ list
wants_of v [] = refl
wants_of v (one ∷ more) = ap (λ l. one ∷ l) (wants_shift (rows_of v (one ∷ more)) 0 (count_of more) ∙ wants_of v more)

pub places_of : {V : Type 0} (v : V) (list : List ℕ) → places (rows_of v (expecting v list)) 0 (count_of list) ≡ list
places_of v [] = refl
places_of v (a ∷ more) = ap (λ l. a ∷ l) (places_shift (rows_of v (expecting v (a ∷ more))) 0 (count_of more) ∙ places_of v more)

pub starts_are_open : {V : Type 0} → StartsAreOpen V
starts_are_open {V = V} v t n b = record {
  to_read = λ l a. (_, begins_read a);
  to_ll = λ a. (_, begins_ll a);
  to_sc = λ a u. (_, begins_sc a u);
  to_snapshot = λ l a more. subst (λ q. CanBegin {V = V} t (proc n l b resting) (snapshot q)) (places_of v (a ∷ more))
      (_, begins_snapshot (rows_of v (expecting v (a ∷ more))) (count_of more));
  to_kcss = λ first others u. subst (λ q. CanBegin {V = V} t (proc n none b resting) (kcss first q u)) (wants_of v others)
      (_, begins_kcss first.location first.value u (rows_of v others) (count_of others));
}

some_named : (a : ℕ) (more : List ℕ) → a ∷ more ≡ [] → ⊥
some_named a more e = clash (cc)

module _ {V : Type 0} where
  with_link : (t n b : ℕ) (l l' : Option ℕ) (q : Request V) → l ≡ l' → CanBegin t (proc n l' b resting) q → CanBegin t (proc n l b resting) q
  with_link t n b l l' q e c = subst (λ x. CanBegin t (proc n x b resting) q) (sym e) c

  begin_at_rest : (t n b : ℕ) → OpenTo V t n b → (l : Option ℕ) (q : Request V) → LinkAllows l q → (named q ≡ [] → ⊥) → CanBegin t (proc n l b resting) q
  begin_at_rest t n b o l (read a) h s = o.to_read l a
  begin_at_rest t n b o l (ll a) h s = with_link t n b l none (ll a) h (o.to_ll a)
  begin_at_rest t n b o l (sc a u) h s = with_link t n b l (some a) (sc a u) h (o.to_sc a u)
  begin_at_rest t n b o l (snapshot []) h s = absurd (s refl)
  begin_at_rest t n b o l (snapshot (a ∷ more)) h s = o.to_snapshot l a more
  begin_at_rest t n b o l (kcss first others u) h s = with_link t n b l none (kcss first others u) h (o.to_kcss first others u)

  every : V → (t : ℕ) (r : Process V) (q : Request V) → Allowed r q → CanBegin t r q
  every v t (proc n l b ph) q (e, h, s) = subst (λ x. CanBegin t (proc n l b x) q) (sym e) (begin_at_rest t n b (starts_are_open v t n b) l q h s)

  no_other : {t : ℕ} {r next : Process V} {q : Request V} → Begins t r q next → Allowed r q
  no_other (begins_read a) = (refl, tt, some_named a [])
  no_other (begins_ll a) = (refl, refl, some_named a [])
  no_other (begins_sc a u) = (refl, refl, some_named a [])
  no_other (begins_snapshot rows k) = (refl, tt, some_named _ _)
  no_other (begins_kcss a x u rows k) = (refl, refl, some_named a _)

  pub asks : {t : ℕ} {r next : Process V} {q : Request V} → Begins t r q next → asked next ≡ some q
  asks (begins_read a) = refl
  asks (begins_ll a) = refl
  asks (begins_sc a u) = refl
  asks (begins_snapshot rows k) = refl
  asks (begins_kcss a x u rows k) = refl

  pub starts_exactly : StartsExactly V
  starts_exactly = record { every = every; no_other = λ t r next q s. no_other s; asks = λ t r next q s. asks s }
