-- Operands and rows: one of them changed, and lists of what all of them have.
use Rattle.std.proofs.Common.{◌≡◌, ℕ, zero, suc, ◌+◌, ◌<◌, List, [], ◌∷◌, drop, Some, sym, refl, ap, ◌∙◌, inl, inr, arith}
use Rattle.std.proofs.lemmas.Bool.{cases_eq}
use Rattle.std.proofs.lemmas.Option.{slice_get_within}
use Rattle.memory.specs.declared.cell.Cell.{Cell}
use Rattle.memory.specs.declared.cell.Cell.TheVariants.{Id}
use Rattle.memory.specs.declared.cell.TaggedId.{TaggedId}
use Rattle.operation.specs.declared.kind.OperationKind.{OperationKind}
use Rattle.operation.specs.declared.kind.OperationKind.TheVariants.{Kcss}
use Rattle.phases.specs.declared.records.Operand.{Operand}
use Rattle.lines.specs.Comparing.{operand_at}
use Rattle.lines.specs.Suiting.{snapshot_from}
use Rattle.lines.specs.Recording.{at_operand, put_first, put_second, put_first_id, put_second_id}
use Rattle.lines.proofs.Operands.{length_at}
use Rattle.protocol.specs.World.{changed}
use Rattle.protocol.specs.Phases.{Row, Rows, with_id_first, with_id_second, with_first, with_second}
use Rattle.protocol.proofs.Changes.{clash, changed_here, changed_else}
use Rattle.steps_lawful.specs.Showing.{Agree, Fits}

module _ {V : Type 0} where
  pub dropped : (d i : ℕ) (ops : List (Operand V)) → operand_at (drop d ops) i ≡ operand_at ops (d + i)
  dropped zero i ops = ap (operand_at ops) (omega arith)
  dropped (suc d) i [] = refl
  dropped (suc d) i (o ∷ rest) = dropped d i rest ∙ ap (operand_at (o ∷ rest)) (let e : suc (d + i) ≡ suc d + i = omega arith in e)

  module _ (f : Operand V → Operand V) where
    at_here : (i : ℕ) (ops : List (Operand V)) (o : Operand V) → operand_at ops i ≡ Some o → operand_at (at_operand i f ops) i ≡ Some (f o)
    at_here i [] o e = clash (cc)
    at_here zero (x ∷ rest) o e = let q : x ≡ o = cc in cc
    at_here (suc i) (x ∷ rest) o e = at_here i rest o e

    pub at_else : (i j : ℕ) (ops : List (Operand V)) → (j ≡ i → ⊥) → operand_at (at_operand i f ops) j ≡ operand_at ops j
    at_else i j [] h = refl
    at_else zero zero (x ∷ rest) h = absurd (h refl)
    at_else zero (suc j) (x ∷ rest) h = refl
    at_else (suc i) zero (x ∷ rest) h = refl
    at_else (suc i) (suc j) (x ∷ rest) h = at_else i j rest (λ e. h (ap suc e))

module _ {V : Type 0} {kind : OperationKind} {a b i : ℕ} {o : Operand V} {row : Row V} (z : Agree kind a b i o row) where
  narrow : (a' b' : ℕ) → (i < a' → i < a) → (i < b' → i < b) → Agree kind a' b' i o row
  narrow a' b' A B = record {
    location = z.location;
    expected = z.expected;
    first_id = z.first_id;
    second_id = z.second_id;
    first = λ h. z.first (A h);
    second = λ h. z.second (B h);
  }

  pub with_first_id_agrees : (id : TaggedId) (x : Cell V) → x ≡ Id id → Agree kind a b i (put_first_id id o) (with_id_first row x)
  with_first_id_agrees id x e = record {
    location = z.location;
    expected = z.expected;
    first_id = e;
    second_id = z.second_id;
    first = z.first;
    second = z.second;
  }

  pub with_second_id_agrees : (id : TaggedId) (x : Cell V) → x ≡ Id id → Agree kind a b i (put_second_id id o) (with_id_second row x)
  with_second_id_agrees id x e = record {
    location = z.location;
    expected = z.expected;
    first_id = z.first_id;
    second_id = e;
    first = z.first;
    second = z.second;
  }

  pub with_first_agrees : (v : V) (a' : ℕ) → Agree kind a' b i (put_first v o) (with_first row v)
  with_first_agrees v a' = record {
    location = z.location;
    expected = z.expected;
    first_id = z.first_id;
    second_id = z.second_id;
    first = λ _. refl;
    second = z.second;
  }

  pub with_second_agrees : (v : V) (b' : ℕ) → Agree kind a b' i (put_second v o) (with_second row v)
  with_second_agrees v b' = record {
    location = z.location;
    expected = z.expected;
    first_id = z.first_id;
    second_id = z.second_id;
    first = z.first;
    second = λ _. refl;
  }

module _ {V : Type 0} {kind : OperationKind} {k a b : ℕ} {rows : Rows V} {ops : List (Operand V)} (fits : Fits kind k a b rows ops) where
  -- an operand that is collected is one of the k
  pub counted : (i : ℕ) (o : Operand V) → operand_at ops (snapshot_from kind + i) ≡ Some o → i < k
  counted i o e = omega (arith, slice_get_within ops (snapshot_from kind + i) o e, fits.count)

  -- fewer values count
  pub fewer : (a' b' : ℕ) → ((i : ℕ) → i < k → (i < a' → i < a) × (i < b' → i < b)) → Fits kind k a' b' rows ops
  fewer a' b' H = record {
    count = fits.count;
    each = λ i o e. (let h = H i (counted i o e) in narrow (fits.each i o e) a' b' h.0 h.1);
  }

  -- operand j and its row i are changed in the same way
  pub refit : (i j : ℕ) (o : Operand V) (f : Operand V → Operand V) (row : Row V) (a' b' : ℕ) → j ≡ snapshot_from kind + i
      → operand_at ops j ≡ Some o → Agree kind a' b' i (f o) row
      → ((x : ℕ) → x < k → (x ≡ i → ⊥) → (x < a' → x < a) × (x < b' → x < b)) → Fits kind k a' b' (changed rows i row) (at_operand j f ops)
  refit i j o f row a' b' at e agree H = record { count = length_at f j ops ∙ fits.count; each = each' }
    where
      each' : (x : ℕ) (y : Operand V) → operand_at (at_operand j f ops) (snapshot_from kind + x) ≡ Some y → Agree kind a' b' x y (changed rows i row x)
      each' x y g = elim (cases_eq x i) [
        | inl q ↦ (let s : y ≡ f o = cc (at_here f j ops o e) in rw (q, changed_here rows i row, s) agree)
        | inr q ↦ (let s : operand_at ops (snapshot_from kind + x) ≡ Some y = sym (at_else f j (snapshot_from kind + x) ops (λ r. q (omega arith))) ∙ g in
            let h = H x (counted x y s) q in rw (changed_else rows i row x q) (narrow (fits.each x y s) a' b' h.0 h.1))
      ]

-- the first operand of a KCSS is none of the rows
pub headed : {V : Type 0} {k a b : ℕ} {rows : Rows V} {ops : List (Operand V)} (f : Operand V → Operand V) → Fits Kcss k a b rows ops
    → Fits Kcss k a b rows (at_operand 0 f ops)
headed {ops = ops} f fits = record {
  count = length_at f 0 ops ∙ fits.count;
  each = λ i o e. fits.each i o (sym (at_else f 0 (1 + i) ops (λ h. absurd (omega arith))) ∙ e);
}
