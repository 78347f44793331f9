-- The 11 of an SC and of a KCSS: each step of the code is a line.
use Rattle.std.proofs.Common.{◌≡◌, ℕ, zero, suc, ◌<◌, Bool, true, false, cond, List, [], ◌∷◌, length, Some, refl, ◌∙◌, arith}
use mathlib.Core.Option as maybe
use Rattle.std.proofs.lemmas.Bool.{lt-ltb, le-ltb}
use Rattle.operation.specs.declared.kind.OperationKind.TheVariants.{Sc, Kcss}
use Rattle.memory.specs.declared.cell.Cell.TheVariants.{Value}
use Rattle.phases.specs.declared.phase.Phase.TheVariants.{Swap}
use Rattle.phases.specs.declared.records.Operand.{Operand}
use Rattle.phases.specs.declared.records.Place.TheVariants.{Val}
use Rattle.phases.specs.declared.records.Seen.TheVariants.{Said}
use Rattle.lines.specs.Accesses.{swap_value}
use Rattle.lines.specs.Comparing.{meets, all_meet}
use Rattle.protocol.specs.World.{World, id_cell}
use Rattle.protocol.specs.Phases.{Rows}
use Rattle.protocol.specs.Phases.Phase.{swap_sc, swap}
use Rattle.protocol.specs.Lines.Line.{sc_yes, sc_no, kcss_one, kcss_yes, kcss_retry, kcss_first, kcss_first_gone, kcss_other, kcss_other_gone}
use Rattle.line_views.specs.View.{Running, put}
use Rattle.line_views.specs.View.Running.{runs}
use Rattle.line_views.specs.Steps.{Goes, Steps}
use Rattle.steps_lawful.specs.Showing.{Fits, collected_at, Shows}
use Rattle.steps_lawful.specs.Showing.Links.{links_kcss}
use Rattle.steps_lawful.specs.Showing.LinkPhase.{at_attempt}
use Rattle.steps_lawful.specs.Showing.Shows.{shows_link}
use Rattle.steps_lawful.proofs.Fitting.{fewer}
use Rattle.lines.proofs.Operands.{same_true, same_false}
use Rattle.steps_lawful.proofs.Comparing.{met_rows, unmet_row}
use Rattle.steps_lawful.proofs.Asking.{asked_kcss}

-- with other operands, the step that ended the first collect is the code's
pub ended : (k c : ℕ) → 0 < k → collected_at k c ≡ c
ended zero c h = absurd (omega arith)
ended (suc k) c h = refl

module _ {V : Type 0} (code : V → ℕ) (one : (x y : V) → code x ≡ code y → x ≡ y) (N : Type 0) (t p n b : ℕ) (w : World V) (o : Operand V)
    (rest : List (Operand V)) (x u v : V) (rows : Rows V) (m c g : ℕ) (f : Bool) (ex : o.expected ≡ Some x) (fi : o.first ≡ Some v) where
  -- 11 writes the new value, or the LL's if a value is not as expected
  writes : (r : Bool) → all_meet code (o ∷ rest) ≡ r → swap_value code Kcss (o ∷ rest) (Some u) ≡ Some (cond r u v)
  writes true e = rw e refl
  writes false e = rw e fi

  abbrev R : Running V
  R = runs Kcss (o ∷ rest) (Some u) Swap m c f

  -- all values are as expected, and 11 says yes
  yes_goes : (k : ℕ) → Fits Kcss k k k rows (o ∷ rest) → g ≡ collected_at k c → v ≡ x → meets code o ≡ true → all_meet code rest ≡ true
      → w.val o.location ≡ id_cell p n
      → Goes Shows t p n b maybe.none code N w R (swap o.location x u v m rows k g) (Said true) (put w (Val o.location) (Value u))
  yes_goes zero fits at z q r e =
      rw (q, r, le-ltb 1 (suc (length rest)) (omega (arith, fits.count))) (_, _, _, kcss_one z e, refl, (_, _, refl, asked_kcss ex fits, refl, refl))
  yes_goes (suc k) fits at z q r e =
      rw (q, r, lt-ltb 1 (suc (length rest)) (omega (arith, fits.count)))
      (_, _, _, kcss_yes z (met_rows code one fits r) e, refl, (_, _, refl, asked_kcss ex fits, refl, rw at refl))

  -- q: the first value is as expected; r: the others are
  steps_by : (k : ℕ) → Fits Kcss k k k rows (o ∷ rest) → g ≡ collected_at k c → (q r : Bool) → meets code o ≡ q → all_meet code rest ≡ r
      → Steps Shows t p n b maybe.none code N w R (swap o.location x u v m rows k g)
  steps_by k fits at true true q r =
      let z = same_true code one o.first o.expected v x fi ex q in
      rw (writes true (rw (q, r) refl)) (
        yes_goes k fits at z q r,
        (λ h. rw (q, r) (
          _,
          _,
          _,
          kcss_retry z (met_rows code one fits r) h,
          refl,
          (_, refl, refl, shows_link (links_kcss ex (fewer fits 0 0 (omega arith))) at_attempt),
        )),
      )
  steps_by k fits at true false q r =
      let z = same_true code one o.first o.expected v x fi ex q in
      let d = unmet_row code one fits r in
      let s = at ∙ ended k c (omega arith) in
      rw (writes false (rw (q, r) refl)) (
        (λ e. rw (q, r) (_, _, _, kcss_other z d.1 d.2 e, refl, (_, _, refl, asked_kcss ex fits, refl, rw s refl))),
        (λ h. rw (q, r) (_, _, _, kcss_other_gone z d.1 d.2 h, refl, (_, _, refl, asked_kcss ex fits, refl, rw s refl))),
      )
  steps_by k fits at false r q e =
      let z = same_false code o.first o.expected v x fi ex q in
      rw (writes false (rw q refl)) (
        (λ e. rw q (_, _, _, kcss_first z e, refl, (_, _, refl, asked_kcss ex fits, refl, refl))),
        (λ h. rw q (_, _, _, kcss_first_gone z h, refl, (_, _, refl, asked_kcss ex fits, refl, refl))),
      )

  -- the 11 of a KCSS of k + 1 locations
  pub swap_steps : (k : ℕ) → Fits Kcss k k k rows (o ∷ rest) → g ≡ collected_at k c
      → Steps Shows t p n b maybe.none code N w R (swap o.location x u v m rows k g)
  swap_steps k fits at = steps_by k fits at (meets code o) (all_meet code rest) refl refl

-- the 11 of an SC
pub sc_steps : {V : Type 0} (code : V → ℕ) (N : Type 0) (t p n b : ℕ) (w : World V) (o : Operand V) (u : V) (m c : ℕ) (f : Bool)
    → Steps Shows t p n b maybe.none code N w (runs Sc (o ∷ []) (Some u) Swap m c f) (swap_sc o.location u)
sc_steps code N t p n b w o u m c f =
    ((λ e. (_, _, _, sc_yes e, refl, (_, _, refl, refl, refl, refl))), (λ h. (_, _, _, sc_no h, refl, (_, _, refl, refl, refl, refl))))
