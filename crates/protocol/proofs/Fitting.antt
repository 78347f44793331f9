-- Starts make processes fit, lines keep them so, and the bounds are those of what was asked.
use Rattle.std.proofs.Common.{◌≡◌, ℕ, zero, suc, ◌+◌, ◌*◌, ◌<◌, ◌≤◌, length, sym, refl, ap, ◌∙◌, subst, arith}
use mathlib.Core.Option.{some, none}
use native.Mathlib.Decide.{ℕ_discrete}
use Rattle.protocol.specs.World.{World}
use Rattle.protocol.specs.Events.{Event}
use Rattle.protocol.specs.Operations.{Request}
use Rattle.protocol.specs.Phases.{Rows, Job, Purpose, Phase, Process, places, wants, job_request, purpose_request, phase_request, asked}
use Rattle.protocol.specs.Phases.Job.{for_ll, for_kcss}
use Rattle.protocol.specs.Phases.Purpose.{solo, inside}
use Rattle.protocol.specs.Phases.Phase.{resting, reading, attempt, attempt_again, linking, to_save, to_mark, to_note}
use Rattle.protocol.specs.Phases.Phase.{swap_sc, first_id, first_collect, second_collect, second_id, swap}
use Rattle.protocol.specs.Phases.Process.{proc}
use Rattle.protocol.specs.Lines.{Line}
use Rattle.protocol.specs.Lines.Line.{read_on, attempt_value, attempt_id, again_value, again_id, link_on, link_got, line_7, line_8_yes, line_8_no}
use Rattle.protocol.specs.Lines.Line.{line_9_one, line_9_more, s6_on, s6_end, c1_on, c1_got, c1_end, c2_on, c2_got, c2_end, s9_on, s9_again, s9_inside, kcss_retry}
use Rattle.protocol.specs.Runs.{Begins}
use Rattle.protocol.specs.Runs.Begins.{begins_read, begins_ll, begins_sc, begins_snapshot, begins_kcss}
use Rattle.protocol.specs.Remaining.{Off, PurposeFits}
use Rattle.protocol.specs.Solo.{job_bound, purpose_bound, phase_bound, bound, Fits}
use Rattle.protocol.specs.Asked.{request_bound, NotAmong, NoRepeat, AskedBounds}
use Rattle.protocol.proofs.Costing.{off_set, fits_set}
use Rattle.protocol.proofs.Alone.{ends_to, bounds}

module _ {V : Type 0} where
  off_wants : (a : ℕ) (rows : Rows V) (i k : ℕ) → NotAmong a (wants rows i k) → (j : ℕ) → i ≤ j → j < i + k → (rows j).location ≡ a → ⊥
  off_wants a rows i zero h j l m e = omega arith
  off_wants a rows i (suc k) (n, h) j l m e =
      elim (ℕ_discrete j i) [
        | yes q ↦ n (ap (λ x. (rows x).location) (sym q) ∙ e)
        | no q ↦ off_wants a rows (suc i) k h j (omega arith) (omega arith) e
      ]

  starts_fit : {t : ℕ} {r r' : Process V} {q : Request V} → Begins t r q r' → NoRepeat q → Fits r'
  starts_fit (begins_read a) h = tt
  starts_fit (begins_ll a) h = tt
  starts_fit (begins_sc a u) h = tt
  starts_fit (begins_snapshot rows k) h = (tt, omega arith)
  starts_fit (begins_kcss a x u rows k) h = λ j l. off_wants a rows 0 k h j (omega arith) (omega arith)

  lines_fit : {t p : ℕ} {w : World V} {r r' : Process V} {e : Event V} → Line t p w r e r' none → Fits r → Fits r'
  lines_fit (read_on x) f = tt
  lines_fit (attempt_value x) f = f
  lines_fit (attempt_id k x) f = f
  lines_fit (again_value x) f = f
  lines_fit (again_id k x) f = f
  lines_fit (link_on x) f = f
  lines_fit (link_got x) f = f
  lines_fit line_7 f = f
  lines_fit (line_8_yes x) f = f
  lines_fit (line_8_no x) f = f
  lines_fit line_9_one f = f
  lines_fit line_9_more f = (f, omega arith)
  lines_fit (s6_on {F = F} {rows = rows} {k = k} {i = i} y) (f, l) = (fits_set rows i _ refl F k f, y)
  lines_fit (s6_end {F = F} {rows = rows} {k = k} {i = i} y) (f, l) = (fits_set rows i _ refl F k f, omega arith)
  lines_fit (c1_on x) f = f
  lines_fit (c1_got {F = F} {rows = rows} {k = k} {i = i} x y) (f, l) = (fits_set rows i _ refl F k f, y)
  lines_fit (c1_end {F = F} {rows = rows} {k = k} {i = i} x y) (f, l) = (fits_set rows i _ refl F k f, omega arith)
  lines_fit (c2_on x) f = f
  lines_fit (c2_got {F = F} {rows = rows} {k = k} {i = i} x y) (f, l) = (fits_set rows i _ refl F k f, y)
  lines_fit (c2_end {F = F} {rows = rows} {k = k} {i = i} x y) (f, l) = (fits_set rows i _ refl F k f, omega arith)
  lines_fit (s9_on {F = F} {rows = rows} {k = k} {i = i} y) (f, l) = (fits_set rows i _ refl F k f, y)
  lines_fit (s9_again {F = F} {rows = rows} {k = k} {i = i} y e z) (f, l) =
      (subst (λ (x : Rows V). PurposeFits F x k) (sym e) (fits_set rows i _ refl F k f), omega arith)
  lines_fit (s9_inside {a = a} {rows = rows} {k = k} {i = i} y e z) (f, l) =
      subst (λ (x : Rows V). Off a x k) (sym e) (off_set rows i _ refl a k f)
  lines_fit (kcss_retry x y z) f = f

  length_places : (rows : Rows V) (i k : ℕ) → length (places rows i k) ≡ k
  length_places rows i zero = refl
  length_places rows i (suc k) = ap suc (length_places rows (suc i) k)

  length_wants : (rows : Rows V) (i k : ℕ) → length (wants rows i k) ≡ k
  length_wants rows i zero = refl
  length_wants rows i (suc k) = ap suc (length_wants rows (suc i) k)

  of_job : (J : Job V) → job_bound J ≡ request_bound (job_request J)
  of_job (for_ll a) = refl
  of_job (for_kcss a x u rows k) = let c = length_wants rows 0 k in omega arith

  of_purpose : (F : Purpose V) (rows : Rows V) (k : ℕ) → purpose_bound F k ≡ request_bound (purpose_request F rows k)
  of_purpose solo rows k = let c = length_places rows 0 k in omega arith
  of_purpose (inside a x u v t8) rows k = let c = length_wants rows 0 k in omega arith

  -- from the request of a phase
  told : {q q' : Request V} (N : ℕ) → N ≡ request_bound q → some q ≡ some q' → N ≡ request_bound q'
  told {q} {q'} N h e = h ∙ ap request_bound (let i : q ≡ q' = cc in i)

  of_phase : (ph : Phase V) (q : Request V) → phase_request ph ≡ some q → phase_bound ph ≡ request_bound q
  of_phase resting q e = absurd (none_some e)
    where
      none_some : {q : Request V} → none ≡ some q → ⊥
      none_some e = let z : ◌≡◌ {A = ℕ} 0 1 = cc in omega arith
  of_phase (reading a s) q e = told 7 refl e
  of_phase (attempt J) q e = told (job_bound J) (of_job J) e
  of_phase (attempt_again J) q e = told (job_bound J) (of_job J) e
  of_phase (linking J s) q e = told (job_bound J) (of_job J) e
  of_phase (to_save J v) q e = told (job_bound J) (of_job J) e
  of_phase (to_mark J v) q e = told (job_bound J) (of_job J) e
  of_phase (to_note J v t8) q e = told (job_bound J) (of_job J) e
  of_phase (swap_sc a u) q e = told 1 refl e
  of_phase (first_id F rows k i) q e = told (purpose_bound F k) (of_purpose F rows k) e
  of_phase (first_collect F rows k i s) q e = told (purpose_bound F k) (of_purpose F rows k) e
  of_phase (second_collect F rows k o i s) q e = told (purpose_bound F k) (of_purpose F rows k) e
  of_phase (second_id F rows k o i) q e = told (purpose_bound F k) (of_purpose F rows k) e
  of_phase (swap a x u v t8 rows k o) q e = told (16 * k + 11) (of_purpose (inside a x u v t8) rows k) e

  as_asked : (r : Process V) (q : Request V) → asked r ≡ some q → bound r ≡ request_bound q
  as_asked (proc n l b ph) q e = of_phase ph q e

  pub asked_bounds : AskedBounds V
  asked_bounds = record {
    as_asked = as_asked;
    starts_fit = λ t r r' q b h. starts_fit b h;
    lines_fit = λ t p w r r' e l f. lines_fit l f;
    ends_asked = λ p N m q f e a. let h = bounds.ends p N m f a in let c = as_asked (m.processes p) q e in omega arith;
    ends_asked_to = λ p N m b q f e a. let h = ends_to p N m b f a in let c = as_asked (m.processes p) q e in omega arith;
  }
