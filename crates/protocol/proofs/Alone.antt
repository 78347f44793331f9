-- What remains is within the bounds, and a process alone ends.
use Rattle.std.proofs.Common.{◌≡◌, ℕ, zero, suc, ◌+◌, ◌*◌, ◌<◌, ◌≤◌, List, sym, refl, ap, subst, inl, inr, arith}
use mathlib.Core.Option.{none}
use Rattle.memory.specs.declared.cell.Cell.{Cell}
use Rattle.protocol.specs.Phases.{Job, place_of, Purpose, Phase, Process}
use Rattle.protocol.specs.Phases.Job.{for_ll, for_kcss}
use Rattle.protocol.specs.Phases.Purpose.{solo, inside}
use Rattle.protocol.specs.Phases.Phase.{resting, reading, attempt, attempt_again, linking, to_save, to_mark, to_note}
use Rattle.protocol.specs.Phases.Phase.{swap_sc, first_id, first_collect, second_collect, second_id, swap}
use Rattle.protocol.specs.Phases.Process.{proc}
use Rattle.protocol.specs.Events.{Event}
use Rattle.protocol.specs.Lines.{Line}
use Rattle.protocol.specs.Runs.{Machine, world, Given, Begun, turned}
use Rattle.protocol.specs.Remaining.{beyond, beyond_lost, Rest, LeftIn, Left}
use Rattle.protocol.specs.Solo.{job_bound, purpose_bound, phase_bound, bound, PhaseFits, Fits, Remaining, Falls, Alone, SoloEnds, SoloBounds, AloneTo, SoloEndsTo}
use Rattle.protocol.specs.Solo.AloneTo.{no_line, then_starts, then_line}
use Rattle.protocol.proofs.Changes.{changed_here}
use Rattle.protocol.proofs.Costing.{high, costs_high, costs_above, costs_but, reads_some, reads_7}
use Rattle.protocol.proofs.Falling.{fall}
use Rattle.protocol.proofs.Turning.{begun_same}
use Rattle.protocol.proofs.Starting.{Rests, still_runs}

module _ {V : Type 0} (val tid : ℕ → Cell V) (p n : ℕ) where
  -- at least one line remains
  some_left : (ph : Phase V) → LeftIn val tid p n ph 0 → ⊥
  some_left resting h = h
  some_left (reading a s) h = reads_some val a s h
  some_left (attempt J) (f, h) = omega arith
  some_left (attempt_again J) (f, h) = omega arith
  some_left (linking J s) (f, r, rd, h) = omega arith
  some_left (to_save J v) (f, inl h) = omega arith
  some_left (to_save J v) (f, inr (x, h)) = omega arith
  some_left (to_mark J v) (f, inl h) = omega arith
  some_left (to_mark J v) (f, inr (x, h)) = omega arith
  some_left (to_note J v t8) (f, inl h) = omega arith
  some_left (to_note J v t8) (f, inr (x, h)) = omega arith
  some_left (swap_sc a u) h = omega arith
  some_left (first_id F rows k i) (f, l, E, R, inl h) = omega arith
  some_left (first_id F rows k i) (f, l, E, R, inr (d, h)) = omega arith
  some_left (first_collect F rows k i s) (f, l, E, R, r, rd, inl h) = let c = costs_above val rows i k l in omega arith
  some_left (first_collect F rows k i s) (f, l, E, R, r, rd, inr (d, g, h)) = let c = costs_above val rows i k l in omega arith
  some_left (second_collect F rows k o i s) (f, l, E, R, inl (r, rd, h)) = let c = costs_above val rows i k l in omega arith
  some_left (second_collect F rows k o i s) (f, l, E, R, inr (q, d, g, a, h)) = omega arith
  some_left (second_id F rows k o i) (f, l, E, R, inl h) = omega arith
  some_left (second_id F rows k o i) (f, l, E, R, inr (d, g, a, b, h)) = omega arith
  some_left (swap a x u v t8 rows k f) (g, inl h) = omega arith
  some_left (swap a x u v t8 rows k f) (g, inr (m, h)) = omega arith

  beyond_high : (J : Job V) → 10 + beyond val J ≤ job_bound J
  beyond_high (for_ll a) = omega arith
  beyond_high (for_kcss a x u rows k) = let c = costs_high val rows k in omega arith

  lost_high : (J : Job V) → 1 + beyond_lost val J ≤ job_bound J
  lost_high (for_ll a) = omega arith
  lost_high (for_kcss a x u rows k) = let c = costs_high val rows k in omega arith

  rest_of : (F : Purpose V) (k : ℕ) → (E : ℕ) × Rest val p n F k E × (12 * k + 1 + E ≤ purpose_bound F k)
  rest_of solo k = (0, refl, omega arith)
  rest_of (inside a x u v t8) k = (4 * k + 10, inl refl, omega arith)

  -- whatever the cells hold
  most : (ph : Phase V) → PhaseFits ph → LeftIn val tid p n ph (phase_bound ph)
  most resting f = f
  most (reading a s) f = reads_7 val a s
  most (attempt J) f = (f, let c = high (val (place_of J)) in let b = beyond_high J in omega arith)
  most (attempt_again J) f = (f, let c = high (val (place_of J)) in let b = beyond_high J in omega arith)
  most (linking J s) f = (f, 7, reads_7 val (place_of J) s, let b = beyond_high J in omega arith)
  most (to_save J v) f = (f, inl (beyond_high J))
  most (to_mark J v) f = (f, inl (let b = beyond_high J in omega arith))
  most (to_note J v t8) f = (f, inl (lost_high J))
  most (swap_sc a u) f = omega arith
  most (first_id F rows k i) (f, l) =
      let R = rest_of F k in let b = R.2 in let c = costs_high val rows k in (f, l, R.0, R.1, inl (omega arith))
  most (first_collect F rows k i s) (f, l) =
      let R = rest_of F k in
      let b = R.2 in
      let c = costs_but val rows i k l in
      (f, l, R.0, R.1, 7, reads_7 val (rows i).location s, inl (omega arith))
  most (second_collect F rows k o i s) (f, l) =
      let R = rest_of F k in
      let b = R.2 in
      let c = costs_but val rows i k l in
      (f, l, R.0, R.1, inl (7, reads_7 val (rows i).location s, omega arith))
  most (second_id F rows k o i) (f, l) =
      let R = rest_of F k in let b = R.2 in let c = costs_high val rows k in (f, l, R.0, R.1, inl (omega arith))
  most (swap a x u v t8 rows k o) f = (f, inl (let c = costs_high val rows k in omega arith))

some_of : {V : Type 0} (val tid : ℕ → Cell V) (p : ℕ) (r : Process V) → Left val tid p r 0 → ⊥
some_of val tid p (proc n l b ph) h = some_left val tid p n ph h

most_of : {V : Type 0} (val tid : ℕ → Cell V) (p : ℕ) (r : Process V) → Fits r → Left val tid p r (bound r)
most_of val tid p (proc n l b ph) f = most val tid p n ph f

pub measure : {V : Type 0} → Falls V
measure {V = V} = record {
  falls = λ t p N m e r l h. subst (λ (x : Process V). Left (turned m e p r).val (turned m e p r).tid p x N) (sym (changed_here m.processes p r)) (fall N l refl h);
  not_zero = λ p m h. some_of m.val m.tid p (m.processes p) h;
  within_bound = λ p m f. most_of m.val m.tid p (m.processes p) f;
}

-- what remains after N lines, and after Starts
module _ {V : Type 0} (p M : ℕ) (m : Machine V) where
  abbrev Less : ℕ → Machine V → Type 0
  Less N b = (K : ℕ) × (M ≡ N + K) × Remaining b p K

  with_starts : (N : ℕ) {s : ℕ} {b b' : Machine V} {list : List (Given V)} → Begun s b list b' → Less N b → Less N b'
  with_starts N {b = b} {b' = b'} u (K, e, h) =
      let w = begun_same u in
      let runs : Rests (b.processes p) → ⊥ = λ (n, l, c, i). subst (λ (x : Process V). Left b.val b.tid p x K) i h in (
        K,
        e,
        subst (λ (x : ℕ → Cell V). Left x b'.tid p (b'.processes p) K) (sym (ap (λ w. w.val) w))
            (subst (λ (x : ℕ → Cell V). Left b.val x p (b'.processes p) K) (sym (ap (λ w. w.tid) w))
            (subst (λ (x : Process V). Left b.val b.tid p x K) (sym (still_runs u p runs)) h)),
      )

  with_line : (N : ℕ) (b : Machine V) (s : ℕ) (e : Event V) (r : Process V) → Line s p (world b) (b.processes p) e r none → Less N b → Less (suc N) (turned b e p r)
  with_line N b s e r l (zero, i, h) = absurd (measure.not_zero p b h)
  with_line N b s e r l (suc K, i, h) = (K, omega arith, measure.falls s p K b e r l h)

  less : {N : ℕ} {b : Machine V} → Remaining m p M → AloneTo p m N b → Less N b
  less h no_line = (M, omega arith, h)
  less h (then_starts {N = N} a s u) = with_starts N u (less h a)
  less h (then_line {N = N} {b = b} a s e r l) = with_line N b s e r l (less h a)

  fewer : (N : ℕ) (b : Machine V) → Less N b → N < M
  fewer N b (zero, i, h) = absurd (measure.not_zero p b h)
  fewer N b (suc K, i, h) = omega arith

pub ends_to : {V : Type 0} → SoloEndsTo V
ends_to p N m b f a = let M = bound (m.processes p) in fewer p M m N b (less p M m (measure.within_bound p m f) a)

-- after K lines, N more
more_to : {V : Type 0} (p N K : ℕ) (m b : Machine V) → AloneTo p m K b → Alone p N b → (L : ℕ) × (b' : Machine V) × (L ≡ N + K) × AloneTo p m L b'
more_to p zero K m b a c = (K, b, omega arith, a)
more_to p (suc N) K m b a (t, e, r, l, c) =
    let d = more_to p N (suc K) m (turned b e p r) (then_line a t e r l) c in (d.0, d.1, (let h = d.2 in omega arith), d.3)

ends : {V : Type 0} → SoloEnds V
ends p N m f c = let d = more_to p N 0 m m no_line c in let e = d.2 in let h = ends_to p d.0 m d.1 f d.3 in omega arith

pub bounds : {V : Type 0} → SoloBounds V
bounds = record { measure = measure; ends = ends }
