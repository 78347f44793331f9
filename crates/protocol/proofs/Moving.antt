-- What a process knows after a line of its own.
use Rattle.std.proofs.Common.{◌≡◌, ℕ, suc, sym, refl, ap, ◌∙◌, subst, arith}
use mathlib.Core.Option.{Option}
use Rattle.memory.specs.declared.cell.Cell.TheVariants.{Value}
use Rattle.protocol.specs.Events.{Event, after}
use Rattle.protocol.specs.Operations.Request.{read, snapshot}
use Rattle.protocol.specs.Phases.{Rows, Process, Done, places, stage_of, tag_of}
use Rattle.protocol.specs.Lines.{Line}
use Rattle.protocol.specs.Lines.Line.{read_on, read_got, attempt_value, attempt_id, again_value, again_id, link_on, link_got, line_7, line_8_yes, line_8_no}
use Rattle.protocol.specs.Lines.Line.{line_9_ll, line_9_one, line_9_more, sc_yes, sc_no, s6_on, s6_end, c1_on, c1_got, c1_end, c2_on, c2_got, c2_end, s9_on}
use Rattle.protocol.specs.Lines.Line.{s9_again, s9_solo, s9_inside, kcss_one, kcss_yes, kcss_retry, kcss_first, kcss_first_gone, kcss_other, kcss_other_gone}
use Rattle.protocol.specs.Runs.{Run, IsLineOf}
use Rattle.protocol.proofs.Changes.{clash, changed_here}
use Rattle.protocol.specs.Certificates.{KeepsLink}
use Rattle.protocol.proofs.Knowing.{W, F6, F1, F9, PInv, later, more, hold, link_still, spares, sub_own, k_still, for_still, f6_still, f1_still, e_still}
use Rattle.protocol.proofs.Knowing.{eff_still, sub_saved, clear_now, eff_now, eff_past, to_9, quiet_still}

module _ {V : Type 0} (R : Run V) where
  pub own_step : (t p : ℕ) {r r' : Process V} {e : Event V} {d : Option (Done V)} → Line t p (W R t) r e r' d → R.event t ≡ e → R.out t ≡ d → IsLineOf R t p
      → W R (suc t) ≡ after e (W R t) → (W R t).tag p ≡ tag_of r → (W R t).stage p ≡ stage_of r → PInv R t p r → PInv R (suc t) p r'
  own_step t p (read_on {n = n} {l = l} x) ev o w q g s i = (link_still R t p n l (spares R t p (λ _. o)) i.0, sub_own R x i.1, later _ t i.2)
  own_step t p (read_got {n = n} {l = l} {a = a} {v = v} x) ev o w q g s i =
      (link_still R t p n l (λ y z f _ e. let x : y ≡ read a = cc in subst KeepsLink (sym x) tt) i.0, tt, later _ t i.2)
  own_step t p (attempt_value x) ev o w q g s i = (tt, tt, later _ t i.2)
  own_step t p (attempt_id k x) ev o w q g s i = (tt, tt, later _ t i.2)
  own_step t p (again_value x) ev o w q g s i = (tt, tt, later _ t i.2)
  own_step t p (again_id k x) ev o w q g s i = (tt, tt, later _ t i.2)
  own_step t p (link_on x) ev o w q g s i = (tt, sub_own R x i.1, later _ t i.2)
  own_step t p (link_got x) ev o w q g s i = (tt, tt, later _ t i.2)
  own_step t p (line_7 {v = v}) ev o w q g s i = (tt, ap (λ w. w.saved p) q ∙ changed_here (W R t).saved p (Value v), later _ t i.2)
  own_step t p (line_8_yes {n = n} {J = J} {v = v} x) ev o w q g s i =
      (tt, (record { early = omega arith; marks = ev; tag8 = g; keeps = ap (λ w. w.saved p) q ∙ i.1; mine8 = w; clear8 = clear_now R t p (λ _. o); begun8 = i.2 }, (λ c a v h l y. let z : c ≡ t = omega arith in let y' = ap R.event (sym z) ∙ y in clash (cc))), later _ t i.2)
  own_step t p (line_8_no x) ev o w q g s i = (tt, tt, later _ t i.2)
  own_step t p (line_9_ll {v = v} {t8 = t8}) ev o w q g s i =
      let k = i.1.0 in (
        record {
          e0 = t8;
          x = v;
          l0 = t;
          early = omega arith;
          order = k.early;
          marks = k.marks;
          tag0 = k.tag8;
          out0 = o;
          who0 = w.0;
          clear0 = k.clear8;
          quiet0 = quiet_still R t p t8 (λ a v y. clash (cc)) i.1.1;
          since = λ c f q z h l. absurd (omega arith);
        },
        tt,
        later _ t i.2,
      )
  own_step t p line_9_one ev o w q g s i = (tt, (k_still R (ap (λ w. w.saved p) q) (λ _. o) i.1.0, λ h. absurd (omega arith), λ j h. absurd (omega arith)), later _ t i.2)
  own_step t p line_9_more ev o w q g s i = (tt, (k_still R (ap (λ w. w.saved p) q) (λ _. o) i.1.0, omega arith, λ j h. absurd (omega arith)), later _ t i.2)
  own_step t p (sc_yes x) ev o w q g s i = (tt, tt, later _ t i.2)
  own_step t p (sc_no x) ev o w q g s i = (tt, tt, later _ t i.2)
  own_step t p (s6_on {n = n} {b = b} {l = l} {F = F} {rows = rows} {k = k} {i = i} x) ev o w q g s h = (
    link_still R t p n l (spares R t p (λ _. o)) h.0,
    (for_still R t p n b F (ap (λ w. w.saved p) q) (λ _. o) h.1.0, x, more (F6 R (suc t)) rows i _ (λ j y. f6_still R t (rows j) (h.1.2 j y)) (t, omega arith, refl)),
    later _ t h.2,
  )
  own_step t p (s6_end {n = n} {b = b} {l = l} {F = F} {rows = rows} {k = k} {i = i} x) ev o w q g s h = (
    link_still R t p n l (spares R t p (λ _. o)) h.0,
    (
      for_still R t p n b F (ap (λ w. w.saved p) q) (λ _. o) h.1.0,
      omega arith,
      tt,
      (λ j y. more (F6 R (suc t)) rows i _ (λ j y. f6_still R t (rows j) (h.1.2 j y)) (t, omega arith, refl) j (omega arith)),
      (λ j y. absurd (omega arith)),
    ),
    later _ t h.2,
  )
  own_step t p (c1_on {n = n} {b = b} {l = l} {F = F} {rows = rows} x) ev o w q g s h = (
    link_still R t p n l (spares R t p (λ _. o)) h.0,
    (for_still R t p n b F (sub_saved R p x q) (λ _. o) h.1.0, h.1.1, sub_own R x h.1.2, (λ j y. f6_still R t (rows j) (h.1.3 j y)), (λ j y. f1_still R t (rows j) (h.1.4 j y))),
    later _ t h.2,
  )
  own_step t p (c1_got {n = n} {b = b} {l = l} {F = F} {rows = rows} {k = k} {i = i} {v = v} x z) ev o w q g s h = (
    link_still R t p n l (spares R t p (λ _. o)) h.0,
    (
      for_still R t p n b F (sub_saved R p x q) (λ _. o) h.1.0,
      z,
      tt,
      hold (F6 R (suc t)) rows i _ k (λ j y. f6_still R t (rows j) (h.1.3 j y)) h.1.1 (λ y. y),
      more (F1 R (suc t)) rows i _ (λ j y. f1_still R t (rows j) (h.1.4 j y)) (let y = h.1.3 i h.1.1 in (y.0, t, (let m = y.1 in omega arith), omega arith, y.2, sub_own R x h.1.2)),
    ),
    later _ t h.2,
  )
  own_step t p (c1_end {n = n} {b = b} {l = l} {F = F} {rows = rows} {k = k} {i = i} {v = v} x z) ev o w q g s h = (
    link_still R t p n l (spares R t p (λ _. o)) h.0,
    (
      for_still R t p n b F (sub_saved R p x q) (λ _. o) h.1.0,
      omega arith,
      tt,
      (λ j m. more (F1 R (suc t)) rows i _ (λ j y. f1_still R t (rows j) (h.1.4 j y)) (let y = h.1.3 i h.1.1 in (y.0, t, (let m = y.1 in omega arith), omega arith, y.2, sub_own R x h.1.2)) j (omega arith)),
      eff_now R t p n b F l g s w (λ _. o) h.2 h.1.0,
    ),
    later _ t h.2,
  )
  own_step t p (c2_on {n = n} {b = b} {l = l} {F = F} {rows = rows} {f = f} x) ev o w q g s h =
      (link_still R t p n l (spares R t p (λ _. o)) h.0, (for_still R t p n b F (sub_saved R p x q) (λ _. o) h.1.0, h.1.1, sub_own R x h.1.2, h.1.3, eff_still R t p n b F f (λ _. o) h.1.4), later _ t h.2)
  own_step t p (c2_got {n = n} {b = b} {l = l} {F = F} {rows = rows} {k = k} {f = f} {i = i} x z) ev o w q g s h = (
    link_still R t p n l (spares R t p (λ _. o)) h.0,
    (for_still R t p n b F (sub_saved R p x q) (λ _. o) h.1.0, z, tt, hold (F1 R (suc f)) rows i _ k h.1.3 h.1.1 (λ y. y), eff_still R t p n b F f (λ _. o) h.1.4),
    later _ t h.2,
  )
  own_step t p (c2_end {n = n} {b = b} {l = l} {F = F} {rows = rows} {k = k} {f = f} {i = i} x z) ev o w q g s h = (
    link_still R t p n l (spares R t p (λ _. o)) h.0,
    (
      for_still R t p n b F (sub_saved R p x q) (λ _. o) h.1.0,
      omega arith,
      hold (F1 R (suc f)) rows i _ k h.1.3 h.1.1 (λ y. y),
      (λ j y. absurd (omega arith)),
      (eff_still R t p n b F f (λ _. o) h.1.4, eff_past R t p n b F f h.1.4),
    ),
    later _ t h.2,
  )
  own_step t p (s9_on {n = n} {b = b} {l = l} {F = F} {rows = rows} {k = k} {f = f} {i = i} z) ev o w q g s h = (
    link_still R t p n l (spares R t p (λ _. o)) h.0,
    (
      for_still R t p n b F (ap (λ w. w.saved p) q) (λ _. o) h.1.0,
      z,
      hold (F1 R (suc f)) rows i _ k h.1.2 h.1.1 (λ y. y),
      more (F9 R f) rows i _ h.1.3 (to_9 R t f (rows i) (let m = h.1.4.1 in omega arith) (h.1.2 i h.1.1)),
      (eff_still R t p n b F f (λ _. o) h.1.4.0, (let m = h.1.4.1 in omega arith)),
    ),
    later _ t h.2,
  )
  own_step t p (s9_again {n = n} {b = b} {l = l} {F = F} z y a) ev o w q g s h =
      (link_still R t p n l (spares R t p (λ _. o)) h.0, (for_still R t p n b F (ap (λ w. w.saved p) q) (λ _. o) h.1.0, omega arith, λ j y. absurd (omega arith)), later _ t h.2)
  own_step t p (s9_solo {n = n} {l = l} {rows' = rows'} {k = k} z y a) ev o w q g s h =
      (link_still R t p n l (λ y z f _ e. let x : y ≡ snapshot (places rows' 0 k) = cc in subst KeepsLink (sym x) tt) h.0, tt, later _ t h.2)
  own_step t p (s9_inside {n = n} {l = l} {rows = rows} {rows' = rows'} {k = k} {f = f} {i = i} z y a) ev o w q g s h = (
    link_still R t p n l (spares R t p (λ _. o)) h.0,
    (
      k_still R (ap (λ w. w.saved p) q) (λ _. o) h.1.0,
      (λ m. e_still R (λ _. o) h.1.4.0),
      (λ j m. (subst (λ (rr : Rows V). F9 R f (rr j)) (sym y) (more (F9 R f) rows i _ h.1.3 (to_9 R t f (rows i) (let m = h.1.4.1 in omega arith) (h.1.2 i h.1.1)) j (omega arith)), (a j m).0)),
    ),
    later _ t h.2,
  )
  own_step t p (kcss_one x y) ev o w q g s i = (tt, tt, later _ t i.2)
  own_step t p (kcss_yes x y z) ev o w q g s i = (tt, tt, later _ t i.2)
  own_step t p (kcss_retry x y z) ev o w q g s i = (tt, tt, later _ t i.2)
  own_step t p (kcss_first x y) ev o w q g s i = (tt, tt, later _ t i.2)
  own_step t p (kcss_first_gone x y) ev o w q g s i = (tt, tt, later _ t i.2)
  own_step t p (kcss_other x y z u) ev o w q g s i = (tt, tt, later _ t i.2)
  own_step t p (kcss_other_gone x y z u) ev o w q g s i = (tt, tt, later _ t i.2)
