-- What the code asks of all operands, and what the relation asks of all rows.
use Rattle.std.proofs.Common.{◌≡◌, ℕ, ◌+◌, ◌<◌, Bool, true, false, List, drop, sym, refl, ◌∙◌, inl, inr, arith}
use Rattle.std.proofs.lemmas.Bool.{and_parts, and_cases}
use Rattle.std.proofs.lemmas.Option.{slice_get_within}
use Rattle.std.specs.List.{list_all}
use Rattle.operation.specs.declared.kind.OperationKind.{OperationKind}
use Rattle.operation.specs.declared.kind.OperationKind.TheVariants.{Kcss}
use Rattle.phases.specs.declared.records.Operand.{Operand}
use Rattle.lines.specs.Comparing.{same_ids, same_values, still, all_still, meets, all_meet}
use Rattle.lines.specs.Suiting.{snapshot_from}
use Rattle.protocol.specs.Phases.{Rows, Same, Meets}
use Rattle.steps_lawful.specs.Showing.{Agree, Fits}
use Rattle.lines.proofs.Operands.{has, holds, fails, same_ids_true, same_ids_false, same_true, same_false}
use Rattle.steps_lawful.proofs.Fitting.{dropped}

-- A test of every operand, as the code makes it.
module _ {V : Type 0} (test : Operand V → Bool) {kind : OperationKind} {k : ℕ} {rows : Rows V} {ops : List (Operand V)} (fits : Fits kind k k k rows ops) where
  -- if it holds of all that are collected, it holds of the operand of each row
  row_holds : list_all test (drop (snapshot_from kind) ops) ≡ true → (i : ℕ) → i < k
      → (o : Operand V) × (Agree kind k k i o (rows i)) × (test o ≡ true)
  row_holds e i h =
      let z = has ops (snapshot_from kind + i) (omega (arith, fits.count)) in
      (z.0, fits.each i z.0 z.1, holds test (drop (snapshot_from kind) ops) e i z.0 (dropped (snapshot_from kind) i ops ∙ z.1))

  -- if not, it fails of the operand of some row
  row_fails : list_all test (drop (snapshot_from kind) ops) ≡ false
      → (i : ℕ) × (i < k) × (o : Operand V) × (Agree kind k k i o (rows i)) × (test o ≡ false)
  row_fails e =
      let z = fails test (drop (snapshot_from kind) ops) e in
      let at = sym (dropped (snapshot_from kind) z.0 ops) ∙ z.2 in
      (z.0, omega (arith, slice_get_within ops (snapshot_from kind + z.0) z.1 at, fits.count), z.1, fits.each z.0 z.1 at, z.3)

module _ {V : Type 0} (code : V → ℕ) (one : (x y : V) → code x ≡ code y → x ≡ y) where
  module _ {kind : OperationKind} {k : ℕ} {rows : Rows V} {ops : List (Operand V)} (fits : Fits kind k k k rows ops) where
    pub same_rows : all_still code (drop (snapshot_from kind) ops) ≡ true → Same rows k
    same_rows e i h =
        let z = row_holds (still code) fits e i h in
        let o = z.0 in
        let q = and_parts (same_ids o.first_id o.second_id) (same_values code o.first o.second) z.2 in
        let ids : o.first_id ≡ o.second_id = same_ids_true o.first_id o.second_id q.0 in
        (cc (z.1.first_id, z.1.second_id), same_true code one o.first o.second (rows i).first (rows i).second (z.1.first h) (z.1.second h) q.1)

    pub moved_rows : all_still code (drop (snapshot_from kind) ops) ≡ false → Same rows k → ⊥
    moved_rows e same =
        let z = row_fails (still code) fits e in
        let i = z.0 in
        let h = z.1 in
        let o = z.2 in
        let s = same i h in
        elim (and_cases (same_ids o.first_id o.second_id) (same_values code o.first o.second) z.4) [
          | inl u ↦ same_ids_false o.first_id o.second_id u (cc (z.3.first_id, z.3.second_id, s.0))
          | inr u ↦ same_false code o.first o.second (rows i).first (rows i).second (z.3.first h) (z.3.second h) u s.1
        ]

  module _ {k : ℕ} {rows : Rows V} {ops : List (Operand V)} (fits : Fits Kcss k k k rows ops) where
    pub met_rows : all_meet code (drop 1 ops) ≡ true → Meets rows k
    met_rows e i h =
        let z = row_holds (meets code) fits e i h in
        same_true code one z.0.first z.0.expected (rows i).first (rows i).expected (z.1.first h) (z.1.expected refl) z.2

    pub unmet_row : all_meet code (drop 1 ops) ≡ false → (i : ℕ) × (i < k) × ((rows i).first ≡ (rows i).expected → ⊥)
    unmet_row e =
        let z = row_fails (meets code) fits e in
        let i = z.0 in
        (i, z.1, same_false code z.2.first z.2.expected (rows i).first (rows i).expected (z.3.first z.1) (z.3.expected refl) z.4)
