-- Operands by their index, lists of what they have, and what a test of all of them, or of two ids or values, says: for the theorems about the lines.
use Rattle.std.proofs.Common.{◌≡◌, ℕ, zero, suc, ◌+◌, ◌<◌, Bool, true, false, eqb, List, [], ◌∷◌, length, Some, Option, sym, refl, ap, ◌∙◌, inl, inr, arith}
use Rattle.std.specs.List.{list_all}
use Rattle.std.proofs.lemmas.Bool.{and_parts, and_cases, eqb-true, eqb-false}
use Rattle.memory.specs.declared.cell.TaggedId.{TaggedId}
use Rattle.phases.specs.declared.records.Operand.{Operand}
use Rattle.lines.specs.Comparing.{operand_at, same_ids, same_values}
use Rattle.lines.specs.Gathering.{gather, locations}
use Rattle.lines.specs.Recording.{at_operand, put_second_id}

module _ {V : Type 0} where
  pub has : (ops : List (Operand V)) (i : ℕ) → i < length ops → (o : Operand V) × (operand_at ops i ≡ Some o)
  has [] i h = absurd (omega arith)
  has (o ∷ rest) zero h = (o, refl)
  has (o ∷ rest) (suc i) h = has rest i (omega arith)

  -- as many operands as before one of them was changed
  pub length_at : (f : Operand V → Operand V) (i : ℕ) (ops : List (Operand V)) → length (at_operand i f ops) ≡ length ops
  length_at f i [] = refl
  length_at f zero (o ∷ rest) = refl
  length_at f (suc i) (o ∷ rest) = ap suc (length_at f i rest)

  -- a test of every operand: it holds of each, or fails of one
  module _ (test : Operand V → Bool) where
    pub holds : (ops : List (Operand V)) → list_all test ops ≡ true → (i : ℕ) (o : Operand V) → operand_at ops i ≡ Some o → test o ≡ true
    holds [] e i o g = absurd (cc g)
    holds (x ∷ rest) e zero o g = let q : o ≡ x = cc in rw q (and_parts (test x) (list_all test rest) e).0
    holds (x ∷ rest) e (suc i) o g = holds rest (and_parts (test x) (list_all test rest) e).1 i o g

    pub fails : (ops : List (Operand V)) → list_all test ops ≡ false → (i : ℕ) × (o : Operand V) × (operand_at ops i ≡ Some o) × (test o ≡ false)
    fails [] e = absurd (cc e)
    fails (x ∷ rest) e = elim (and_cases (test x) (list_all test rest) e) [
      | inl y ↦ (0, x, refl, y)
      | inr y ↦ (let z = fails rest y in (suc z.0, z.1, z.2, z.3))
    ]

-- what every operand has, as a list from i on
module _ {V A : Type 0} (has : Operand V → Option A) (what : ℕ → A) (list : ℕ → ℕ → List A) (none : (i : ℕ) → list i 0 ≡ [])
    (more : (i k : ℕ) → list i (suc k) ≡ what i ∷ list (suc i) k) where
  pub gathered : (ops : List (Operand V)) (i : ℕ) → ((j x : ℕ) (o : Operand V) → x ≡ i + j → operand_at ops j ≡ Some o → has o ≡ Some (what x))
      → gather has ops ≡ Some (list i (length ops))
  gathered [] i h = ap {B = Option (List A)} Some (sym (none i))
  gathered (o ∷ rest) i h =
      let e : has o ≡ Some (what i) = h 0 i o (omega arith) refl in
      let r = gathered rest (suc i) (λ j x y q g. h (suc j) x y (omega arith) g) in
      rw (e, r, more i (length rest)) refl

pub located : {V : Type 0} (ops : List (Operand V)) → gather (λ o. Some o.location) ops ≡ Some (locations ops)
located [] = refl
located (o ∷ rest) = rw (located rest) refl

-- what S9 records leaves the locations
pub kept_locations : {V : Type 0} (id : TaggedId) (j : ℕ) (ops : List (Operand V)) → locations ops ≡ locations (at_operand j (put_second_id id) ops)
kept_locations id j [] = refl
kept_locations id zero (o ∷ rest) = refl
kept_locations id (suc j) (o ∷ rest) = ap (λ (list : List ℕ). o.location ∷ list) (kept_locations id j rest)

pub same_ids_true : (i j : TaggedId) → same_ids i j ≡ true → i ≡ j
same_ids_true i j e =
    let z = and_parts (eqb i.process j.process) (eqb i.tag j.tag) e in
    let p = eqb-true i.process j.process z.0 in
    let t = eqb-true i.tag j.tag z.1 in
    (λ x. record { process = p x; tag = t x })

pub same_ids_false : (i j : TaggedId) → same_ids i j ≡ false → i ≡ j → ⊥
same_ids_false i j e s = elim (and_cases (eqb i.process j.process) (eqb i.tag j.tag) e) [
  | inl z ↦ eqb-false i.process j.process z (ap (λ (k : TaggedId). k.process) s)
  | inr z ↦ eqb-false i.tag j.tag z (ap (λ (k : TaggedId). k.tag) s)
]

-- two values that are there, compared by their codes
module _ {V : Type 0} (code : V → ℕ) where
  pub same_true : ((x y : V) → code x ≡ code y → x ≡ y) → (x y : Option V) (v u : V) → x ≡ Some v → y ≡ Some u → same_values code x y ≡ true → v ≡ u
  same_true one x y v u e g h = one v u (eqb-true (code v) (code u) (rw (e, g) at h))

  pub same_false : (x y : Option V) (v u : V) → x ≡ Some v → y ≡ Some u → same_values code x y ≡ false → v ≡ u → ⊥
  same_false x y v u e g h s = eqb-false (code v) (code u) (rw (e, g) at h) (ap code s)

  -- values with one code are one, where a code gives its value back
  pub one_value : (decoded : ℕ → Option V) → ((v : V) → decoded (code v) ≡ Some v) → (x y : V) → code x ≡ code y → x ≡ y
  one_value decoded returned x y e = let q : Some x ≡ Some y = sym (returned x) ∙ ap decoded e ∙ returned y in cc
