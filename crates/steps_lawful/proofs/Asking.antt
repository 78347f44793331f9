-- What an operation was asked and answers: lists over the operands are the lists over the rows.
use Rattle.std.proofs.Common.{◌≡◌, ℕ, zero, suc, ◌+◌, ◌<◌, List, [], ◌∷◌, length, drop, Some, Option, sym, refl, ap, ◌∙◌, arith, length-drop}
use Rattle.memory.specs.declared.cell.TaggedId.{TaggedId}
use Rattle.operation.specs.declared.kind.OperationKind.{OperationKind}
use Rattle.operation.specs.declared.kind.OperationKind.TheVariants.{Snapshot, Kcss}
use Rattle.phases.specs.declared.records.Operand.{Operand}
use Rattle.lines.specs.Comparing.{operand_at}
use Rattle.lines.specs.Suiting.{snapshot_from}
use Rattle.lines.specs.Recording.{at_operand, put_second_id}
use Rattle.protocol.specs.Operations.Request.{snapshot}
use Rattle.protocol.specs.Phases.{Rows, places, collected, wants, kcss_of}
use Rattle.lines.specs.Gathering.{gather, firsts, locations}
use Rattle.lines.proofs.Operands.{gathered, located, kept_locations}
use Rattle.line_views.specs.View.{wanted, request_of}
use Rattle.steps_lawful.specs.Showing.{Agree, Fits}
use Rattle.steps_lawful.proofs.Fitting.{dropped, counted}

module _ {V A : Type 0} (has : Operand V → Option A) (what : ℕ → A) (list : ℕ → ℕ → List A) (none : (i : ℕ) → list i 0 ≡ [])
    (more : (i k : ℕ) → list i (suc k) ≡ what i ∷ list (suc i) k) where
  pub all_have : {kind : OperationKind} {k a b : ℕ} {rows : Rows V} {ops : List (Operand V)} (fits : Fits kind k a b rows ops)
      → ((i : ℕ) (o : Operand V) → i < k → Agree kind a b i o (rows i) → has o ≡ Some (what i)) → gather has (drop (snapshot_from kind) ops) ≡ Some (list 0 k)
  all_have {kind = kind} {k = k} {ops = ops} fits h =
      let n : length (drop (snapshot_from kind) ops) ≡ k = omega (arith, length-drop (snapshot_from kind) ops, fits.count) in
      gathered has what list none more (drop (snapshot_from kind) ops) 0 (λ j x o q e. (
      let at : operand_at ops (snapshot_from kind + j) ≡ Some o = sym (dropped (snapshot_from kind) j ops) ∙ e in
      let i : x ≡ j = omega arith in
      rw i (h j o (counted fits j o at) (fits.each j o at))))
      ∙ ap (λ (k : ℕ). Some (list 0 k)) n

-- what S9 records leaves what was asked
pub kept_asked : {V : Type 0} (id : TaggedId) (j : ℕ) (ops : List (Operand V)) (new : Option V)
    → request_of Snapshot ops new ≡ request_of Snapshot (at_operand j (put_second_id id) ops) new
kept_asked id j [] new = refl
kept_asked id zero (o ∷ rest) new = refl
kept_asked id (suc j) (o ∷ rest) new = ap (λ (list : List ℕ). Some (snapshot (o.location ∷ list))) (kept_locations id j rest)

module _ {V : Type 0} {k a b : ℕ} {rows : Rows V} where
  fit_places : {ops : List (Operand V)} → Fits Snapshot k a b rows ops → locations ops ≡ places rows 0 k
  fit_places {ops = ops} fits =
      let e = all_have (λ o. Some o.location) (λ i. (rows i).location) (places rows) (λ _. refl) (λ _ _. refl) fits
      (λ i o h z. ap (λ (a : ℕ). Some a) (sym z.location)) in
      let g = located ops in
      cc

  pub asked_snapshot : (ops : List (Operand V)) (new : Option V) → 0 < k → Fits Snapshot k a b rows ops
      → request_of Snapshot ops new ≡ Some (snapshot (places rows 0 k))
  asked_snapshot [] new h fits = absurd (omega (arith, fits.count))
  asked_snapshot (o ∷ rest) new h fits = ap (λ (list : List ℕ). Some (snapshot list)) (fit_places fits)

  pub asked_kcss : {o : Operand V} {rest : List (Operand V)} {x u : V} → o.expected ≡ Some x → Fits Kcss k a b rows (o ∷ rest)
      → request_of Kcss (o ∷ rest) (Some u) ≡ Some (kcss_of o.location x u rows k)
  asked_kcss {o = o} {rest = rest} {u = u} ex fits =
      let all = all_have wanted (λ i. record { location = (rows i).location; value = (rows i).expected }) (wants rows) (λ _. refl) (λ _ _. refl) fits
      (λ i o h z. rw (z.expected refl, z.location) refl) in
      rw (ex, all) refl

pub collected_snapshot : {V : Type 0} {k b : ℕ} {rows : Rows V} {ops : List (Operand V)} → Fits Snapshot k k b rows ops → firsts ops ≡ Some (collected rows 0 k)
collected_snapshot {rows = rows} fits = all_have (λ o. o.first) (λ i. (rows i).first) (collected rows) (λ _. refl) (λ _ _. refl) fits (λ i o h z. z.first h)
