-- Every line keeps what was asked.
use Rattle.std.proofs.Common.{◌≡◌, ℕ, zero, suc, sym, refl, ap, ◌∙◌}
use mathlib.Core.Option.{Option, some}
use Rattle.protocol.specs.World.{World, changed}
use Rattle.protocol.specs.Events.{Event}
use Rattle.protocol.specs.Operations.Request.{snapshot, kcss}
use Rattle.protocol.specs.Phases.{Row, Rows, Purpose, Process, Done, places, wants, kcss_of, purpose_request}
use Rattle.protocol.specs.Phases.Purpose.{solo, inside}
use Rattle.protocol.specs.Lines.{Line}
use Rattle.protocol.specs.Lines.Line.{read_on, read_got, attempt_value, attempt_id, again_value, again_id, link_on, link_got, line_7, line_8_yes, line_8_no}
use Rattle.protocol.specs.Lines.Line.{line_9_ll, line_9_one, line_9_more, sc_yes, sc_no, s6_on, s6_end, c1_on, c1_got, c1_end, c2_on, c2_got, c2_end, s9_on}
use Rattle.protocol.specs.Lines.Line.{s9_again, s9_solo, s9_inside, kcss_one, kcss_yes, kcss_retry, kcss_first, kcss_first_gone, kcss_other, kcss_other_gone}
use Rattle.protocol.specs.Steps.{Keeps, LinesAreEvents}
use Rattle.protocol.proofs.Turning.{fits, fits_maker, kept, turn}

module _ {V : Type 0} (rows : Rows V) (i : ℕ) (new : Row V) (l : new.location ≡ (rows i).location) (x : new.expected ≡ (rows i).expected) where
  places_same : (j k : ℕ) → places (changed rows i new) j k ≡ places rows j k
  places_same j zero = refl
  places_same j (suc k) = let e = kept (λ r. r.location) rows i new l j in let ih = places_same (suc j) k in cc

  wants_same : (j k : ℕ) → wants (changed rows i new) j k ≡ wants rows j k
  wants_same j zero = refl
  wants_same j (suc k) =
      let e = kept (λ r. r.location) rows i new l j in
      let f = kept (λ r. r.expected) rows i new x j in
      let ih = wants_same (suc j) k in
      cc

  for_same : (F : Purpose V) (k : ℕ) → purpose_request F (changed rows i new) k ≡ purpose_request F rows k
  for_same solo k = ap snapshot (places_same 0 k)
  for_same (inside a y u v t8) k = ap (λ l. kcss (record { location = a; value = y }) l u) (wants_same 0 k)

pub keeps : {V : Type 0} {t p : ℕ} {w : World V} {r r' : Process V} {e : Event V} {d : Option (Done V)} → Line t p w r e r' d → Keeps r r' d
keeps (read_on x) = refl
keeps (read_got x) = (refl, refl)
keeps (attempt_value x) = refl
keeps (attempt_id k x) = refl
keeps (again_value x) = refl
keeps (again_id k x) = refl
keeps (link_on x) = refl
keeps (link_got x) = refl
keeps line_7 = refl
keeps (line_8_yes x) = refl
keeps (line_8_no x) = refl
keeps line_9_ll = (refl, refl)
keeps line_9_one = refl
keeps line_9_more = refl
keeps (sc_yes x) = (refl, refl)
keeps (sc_no x) = (refl, refl)
keeps (s6_on {F = F} {rows = rows} {k = k} {i = i} x) = ap some (for_same rows i _ refl refl F k)
keeps (s6_end {F = F} {rows = rows} {k = k} {i = i} x) = ap some (for_same rows i _ refl refl F k)
keeps (c1_on x) = refl
keeps (c1_got {F = F} {rows = rows} {k = k} {i = i} x y) = ap some (for_same rows i _ refl refl F k)
keeps (c1_end {F = F} {rows = rows} {k = k} {i = i} x y) = ap some (for_same rows i _ refl refl F k)
keeps (c2_on x) = refl
keeps (c2_got {F = F} {rows = rows} {k = k} {i = i} x y) = ap some (for_same rows i _ refl refl F k)
keeps (c2_end {F = F} {rows = rows} {k = k} {i = i} x y) = ap some (for_same rows i _ refl refl F k)
keeps (s9_on {F = F} {rows = rows} {k = k} {i = i} x) = ap some (for_same rows i _ refl refl F k)
keeps (s9_again {F = F} {rows = rows} {k = k} {i = i} x y z) = ap (λ q. some (purpose_request F q k)) y ∙ ap some (for_same rows i _ refl refl F k)
keeps (s9_solo {rows = rows} {rows' = rows'} {k = k} {i = i} x y z) =
    (ap (λ l. some (snapshot l)) (sym (places_same rows i _ refl refl 0 k) ∙ ap (λ q. places q 0 k) (sym y)), refl)
keeps (s9_inside {a = a} {x = x'} {u = u} {rows = rows} {k = k} {i = i} x y z) =
    ap (λ q. some (kcss_of a x' u q k)) y ∙ ap (λ l. some (kcss (record { location = a; value = x' }) l u)) (wants_same rows i _ refl refl 0 k)
keeps (kcss_one x y) = (refl, refl)
keeps (kcss_yes x y z) = (refl, refl)
keeps (kcss_retry x y z) = refl
keeps (kcss_first x y) = (refl, refl)
keeps (kcss_first_gone x y) = (refl, refl)
keeps (kcss_other x y z u) = (refl, refl)
keeps (kcss_other_gone x y z u) = (refl, refl)

pub one_event : {V : Type 0} → LinesAreEvents V
one_event t p m e r d l = record { made_by = fits_maker e p (m.processes p) r (fits l); leads = turn m e p r (fits l); keeps = keeps l }
