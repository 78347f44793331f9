-- What READs cost, and how a line of a READ lowers it.
use Rattle.std.proofs.Common.{◌≡◌, ℕ, zero, suc, ◌+◌, ◌*◌, ◌<◌, ◌≤◌, sym, refl, ap, ◌∙◌, inl, inr, arith}
use native.Mathlib.Decide.{ℕ_discrete}
use Rattle.memory.specs.declared.cell.Cell.{Cell}
use Rattle.memory.specs.declared.cell.Cell.TheVariants.{Value, Id}
use Rattle.protocol.specs.World.{World, changed}
use Rattle.protocol.specs.Events.{Event, after}
use Rattle.protocol.specs.Phases.{ReadPhase, Row, Rows, Job, place_of, Purpose}
use Rattle.protocol.specs.Phases.ReadPhase.{looks, looks_again, fetches, resets}
use Rattle.protocol.specs.Phases.Job.{for_ll, for_kcss}
use Rattle.protocol.specs.Phases.Purpose.{solo, inside}
use Rattle.protocol.specs.Lines.{ReadLine}
use Rattle.protocol.specs.Lines.ReadTurn.{on}
use Rattle.protocol.specs.Lines.ReadLine.{line_13_id, line_1_value, line_1_id, line_3a, line_3b_yes, line_3b_no}
use Rattle.protocol.specs.Remaining.{cost, cost_again, costs, Reads, Off, JobFits, PurposeFits, beyond, Rest, FirstsStand}
use Rattle.protocol.proofs.Changes.{clash, changed_here, changed_else}
use Rattle.protocol.proofs.Turning.{kept}

pub low : {V : Type 0} (c : Cell V) → 1 ≤ cost c
low (Value v) = omega arith
low (Id k) = omega arith

pub high : {V : Type 0} (c : Cell V) → cost c ≤ 5
high (Value v) = omega arith
high (Id k) = omega arith

pub again_high : {V : Type 0} (c : Cell V) → cost_again c ≤ 4
again_high (Value v) = omega arith
again_high (Id k) = omega arith

module _ {V : Type 0} (val : ℕ → Cell V) (rows : Rows V) where
  pub costs_high : (k : ℕ) → costs val rows k ≤ 5 * k
  costs_high zero = omega arith
  costs_high (suc k) = let h = costs_high k in let c = high (val (rows k).location) in omega arith

  pub costs_low : (k : ℕ) → k ≤ costs val rows k
  costs_low zero = omega arith
  costs_low (suc k) = let h = costs_low k in let c = low (val (rows k).location) in omega arith

  pub costs_but : (i k : ℕ) → i < k → costs val rows k + 5 ≤ 5 * k + cost (val (rows i).location)
  costs_but i zero l = absurd (omega arith)
  costs_but i (suc k) l =
      elim (ℕ_discrete i k) [
        | yes e ↦ let c = ap (λ j. cost (val (rows j).location)) e in let h = costs_high k in omega arith
        | no n ↦ let h = costs_but i k (omega arith) in let c = high (val (rows k).location) in omega arith
      ]

  pub costs_above : (i k : ℕ) → i < k → cost (val (rows i).location) ≤ costs val rows k
  costs_above i zero l = absurd (omega arith)
  costs_above i (suc k) l =
      elim (ℕ_discrete i k) [
        | yes e ↦ let c = ap (λ j. cost (val (rows j).location)) e in omega arith
        | no n ↦ let h = costs_above i k (omega arith) in omega arith
      ]

  pub costs_plain : (k : ℕ) → FirstsStand val rows k → costs val rows k ≤ k
  costs_plain zero f = omega arith
  costs_plain (suc k) f =
      let h = costs_plain k (λ j l. f j (omega arith)) in
      let c : cost (val (rows k).location) ≡ 1 = ap cost (f k (omega arith)) in
      omega arith

-- an operand set, its location kept
module _ {V : Type 0} (rows : Rows V) (i : ℕ) (new : Row V) (l : new.location ≡ (rows i).location) where
  pub costs_set : (val : ℕ → Cell V) (k : ℕ) → costs val (changed rows i new) k ≡ costs val rows k
  costs_set val zero = refl
  costs_set val (suc k) =
      let h = costs_set val k in
      let c = ap (λ a. cost (val a)) (kept (λ r. r.location) rows i new l k) in
      omega arith

  pub off_set : (a k : ℕ) → Off a rows k → Off a (changed rows i new) k
  off_set a k f j h e = f j h (sym (kept (λ r. r.location) rows i new l j) ∙ e)

  pub fits_set : (F : Purpose V) (k : ℕ) → PurposeFits F rows k → PurposeFits F (changed rows i new) k
  fits_set solo k f = tt
  fits_set (inside a x u v t8) k f = off_set a k f

-- what a line of a READ of a does to the vals
pub record Calm {V : Type 0} (val val' : ℕ → Cell V) (a : ℕ) : Type 0 where
  pub lower : (b : ℕ) → cost (val' b) ≤ cost (val b)
  pub keeps : (b : ℕ) (x : V) → val b ≡ Value x → val' b ≡ Value x
  pub elsewhere : (b : ℕ) → (b ≡ a → ⊥) → val' b ≡ val b

pub still : {V : Type 0} (val : ℕ → Cell V) (a : ℕ) → Calm val val a
still val a = record { lower = λ b. omega arith; keeps = λ b x e. e; elsewhere = λ b n. refl }

module _ {V : Type 0} {val val' : ℕ → Cell V} {a : ℕ} (C : Calm val val' a) (rows : Rows V) where
  pub costs_lower : (k : ℕ) → costs val' rows k ≤ costs val rows k
  costs_lower zero = omega arith
  costs_lower (suc k) = let h = costs_lower k in let c = C.lower (rows k).location in omega arith

  pub costs_drop : (i k : ℕ) → i < k → costs val' rows k + cost (val (rows i).location) ≤ costs val rows k + cost (val' (rows i).location)
  costs_drop i zero l = absurd (omega arith)
  costs_drop i (suc k) l =
      elim (ℕ_discrete i k) [
        | yes e ↦
            let c = ap (λ j. cost (val (rows j).location)) e in
            let d = ap (λ j. cost (val' (rows j).location)) e in
            let h = costs_lower k in
            omega arith
        | no n ↦ let h = costs_drop i k (omega arith) in let c = C.lower (rows k).location in omega arith
      ]

pub beyond_lower : {V : Type 0} {val val' : ℕ → Cell V} {a : ℕ} → Calm val val' a → (J : Job V) → beyond val' J ≤ beyond val J
beyond_lower C (for_ll a) = omega arith
beyond_lower C (for_kcss a x u rows k) = let h = costs_lower C rows k in omega arith

costs_off : {V : Type 0} (val : ℕ → Cell V) (a : ℕ) (new : Cell V) (rows : Rows V) (k : ℕ) → Off a rows k → costs (changed val a new) rows k ≡ costs val rows k
costs_off val a new rows zero f = refl
costs_off val a new rows (suc k) f =
    let h = costs_off val a new rows k (λ j l. f j (omega arith)) in
    let c = ap cost (changed_else val a new (rows k).location (f k (omega arith))) in
    omega arith

pub beyond_off : {V : Type 0} (val : ℕ → Cell V) (new : Cell V) (J : Job V) → JobFits J → beyond (changed val (place_of J) new) J ≡ beyond val J
beyond_off val new (for_ll a) f = refl
beyond_off val new (for_kcss a x u rows k) f = let h = costs_off val a new rows k f in omega arith

-- a mark elsewhere stays
pub rest_calm : {V : Type 0} {val val' : ℕ → Cell V} (p n i k E : ℕ) (rows : Rows V) (F : Purpose V) → Calm val val' (rows i).location → i < k
    → PurposeFits F rows k → Rest val p n F k E → Rest val' p n F k E
rest_calm p n i k E rows solo C l f R = R
rest_calm p n i k E rows (inside a x u v t8) C l f (inl e) = inl e
rest_calm p n i k E rows (inside a x u v t8) C l f (inr (m, e)) = inr (C.elsewhere a (λ h. f i l (sym h)) ∙ m, e)

module _ {V : Type 0} {w : World V} {p a : ℕ} where
  pub calm : {s s' : ReadPhase V} {e : Event V} → ReadLine w p a s e (on s') → Calm w.val (after e w).val a
  calm (line_13_id k x) = still w.val a
  calm (line_1_value v x) = still w.val a
  calm (line_1_id k x) = still w.val a
  calm (line_3a k v x) = still w.val a
  calm (line_3b_yes k v x) = record { lower = lower; keeps = keeps; elsewhere = changed_else w.val a (Value v) }
    where
      now : (b : ℕ) → b ≡ a → changed w.val a (Value v) b ≡ Value v
      now b e = ap (changed w.val a (Value v)) e ∙ changed_here w.val a (Value v)

      lower : (b : ℕ) → cost (changed w.val a (Value v) b) ≤ cost (w.val b)
      lower b =
          elim (ℕ_discrete b a) [
            | yes e ↦ let c : cost (changed w.val a (Value v) b) ≡ 1 = ap cost (now b e) in let d = low (w.val b) in omega arith
            | no n ↦ let c = ap cost (changed_else w.val a (Value v) b n) in omega arith
          ]

      keeps : (b : ℕ) (y : V) → w.val b ≡ Value y → changed w.val a (Value v) b ≡ Value y
      keeps b y h =
          elim (ℕ_discrete b a) [
            | yes e ↦ (let m = ap w.val e in clash (cc))
            | no n ↦ changed_else w.val a (Value v) b n ∙ h
          ]
  calm (line_3b_no k v x) = still w.val a

  pub read_tids : {s s' : ReadPhase V} {e : Event V} → ReadLine w p a s e (on s') → (b : ℕ) → (after e w).tid b ≡ w.tid b
  read_tids (line_13_id k x) b = refl
  read_tids (line_1_value v x) b = refl
  read_tids (line_1_id k x) b = refl
  read_tids (line_3a k v x) b = refl
  read_tids (line_3b_yes k v x) b = refl
  read_tids (line_3b_no k v x) b = refl

  pub read_falls : {s s' : ReadPhase V} {e : Event V} (r : ℕ) → ReadLine w p a s e (on s') → Reads w.val a s (suc r) → Reads (after e w).val a s' r
  read_falls r (line_13_id k x) h = let c : cost (w.val a) ≡ 5 = ap cost x in let d : cost_again (w.val a) ≡ 4 = ap cost_again x in omega arith
  read_falls r (line_1_value v x) h = let c : cost (w.val a) ≡ 1 = ap cost x in let d : cost_again (w.val a) ≡ 2 = ap cost_again x in omega arith
  read_falls r (line_1_id k x) h = inr (x, let d : cost_again (w.val a) ≡ 4 = ap cost_again x in omega arith)
  read_falls r (line_3a k v x) (inl h) = inl (omega arith)
  read_falls r (line_3a k v x) (inr (m, h)) = inr (m, omega arith)
  read_falls r (line_3b_yes k v x) (inl h) = let c : cost (changed w.val a (Value v) a) ≡ 1 = ap cost (changed_here w.val a (Value v)) in omega arith
  read_falls r (line_3b_yes k v x) (inr (m, h)) = let c : cost (changed w.val a (Value v) a) ≡ 1 = ap cost (changed_here w.val a (Value v)) in omega arith
  read_falls r (line_3b_no k v x) (inl h) = let c = high (w.val a) in omega arith
  read_falls r (line_3b_no k v x) (inr (m, h)) = absurd (x m)

  -- 13 that finds a value ends the READ
  pub no_turn : {s s' : ReadPhase V} {e : Event V} {v : V} → ReadLine w p a s e (on s') → s ≡ looks → w.val a ≡ Value v → ⊥
  no_turn (line_13_id k x) h m = clash (cc)
  no_turn (line_1_value v x) h m = clash (cc)
  no_turn (line_1_id k x) h m = clash (cc)
  no_turn (line_3a k v x) h m = clash (cc)
  no_turn (line_3b_yes k v x) h m = clash (cc)
  no_turn (line_3b_no k v x) h m = clash (cc)

pub reads_some : {V : Type 0} (val : ℕ → Cell V) (a : ℕ) (s : ReadPhase V) → Reads val a s 0 → ⊥
reads_some val a looks h = let c = low (val a) in omega arith
reads_some val a looks_again h = go (val a) h
  where
    go : {V : Type 0} (c : Cell V) → cost_again c ≤ 0 → ⊥
    go (Value v) h = omega arith
    go (Id k) h = omega arith
reads_some val a (fetches k) (inl h) = omega arith
reads_some val a (fetches k) (inr (m, h)) = omega arith
reads_some val a (resets k v) (inl h) = omega arith
reads_some val a (resets k v) (inr (m, h)) = omega arith

pub reads_7 : {V : Type 0} (val : ℕ → Cell V) (a : ℕ) (s : ReadPhase V) → Reads val a s 7
reads_7 val a looks = let c = high (val a) in omega arith
reads_7 val a looks_again = let c = again_high (val a) in omega arith
reads_7 val a (fetches k) = inl (omega arith)
reads_7 val a (resets k v) = inl (omega arith)
