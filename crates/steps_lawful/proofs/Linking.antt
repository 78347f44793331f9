-- LL, alone or in a KCSS: each step of the code is a line.
use Rattle.std.proofs.Common.{◌≡◌, ℕ, zero, suc, Bool, true, false, cond, List, length, Some, None, Option, refl, ap, arith}
use mathlib.Core.Option as maybe
use Rattle.std.proofs.lemmas.Bool.{lt-ltb, le-ltb}
use Rattle.memory.specs.declared.cell.Cell.{Cell}
use Rattle.memory.specs.declared.cell.Cell.TheVariants.{Value, Id}
use Rattle.operation.specs.declared.kind.OperationKind.{OperationKind}
use Rattle.phases.specs.declared.name.Line.{Line}
use Rattle.phases.specs.declared.name.Line.TheVariants.{L13, L7, L8}
use Rattle.phases.specs.declared.phase.Phase.{Phase}
use Rattle.phases.specs.declared.phase.ReadPhase.{ReadPhase}
use Rattle.phases.specs.declared.phase.Phase.TheVariants.{Attempt, Linking, Mark, Note}
use Rattle.phases.specs.declared.records.Operand.{Operand}
use Rattle.phases.specs.declared.records.Place.TheVariants.{Val, Tid, Saved}
use Rattle.phases.specs.declared.records.Access.{Access}
use Rattle.phases.specs.declared.records.Access.TheVariants.{Load, Store, Cas}
use Rattle.phases.specs.declared.records.Seen.{Seen}
use Rattle.phases.specs.declared.records.Seen.TheVariants.{Found}
use Rattle.lines.specs.Accesses.{with_place, read_access}
use Rattle.lines.specs.Comparing.{operand_at}
use Rattle.lines.specs.Suiting as suiting
use Rattle.lines.specs.Recording.{put_first}
use Rattle.protocol.specs.World.{World, id_cell}
use Rattle.protocol.specs.Events.{after}
use Rattle.protocol.specs.Events.Event.{begin, save, mark, note, look}
use Rattle.protocol.specs.Phases as relation
use Rattle.protocol.specs.Phases.{Job, place_of}
use Rattle.protocol.specs.Phases.Phase.{attempt, attempt_again, linking, to_mark, to_note}
use Rattle.protocol.specs.Lines.Line.{attempt_value, attempt_id, again_value, again_id, link_on, link_got, line_7}
use Rattle.protocol.specs.Lines.Line.{line_8_yes, line_8_no, line_9_ll, line_9_one, line_9_more}
use Rattle.line_views.specs.View.{Running, Cells, cells_of, put}
use Rattle.line_views.specs.View.Running.{runs}
use Rattle.line_views.specs.Steps.{Goes, Steps}
use Rattle.steps_lawful.specs.Showing.{read_phase, Links, LinkPhase, Shows}
use Rattle.steps_lawful.specs.Showing.Links.{links_ll, links_kcss}
use Rattle.steps_lawful.specs.Showing.LinkPhase.{at_attempt, at_again, at_read, at_7, at_8, at_9}
use Rattle.steps_lawful.specs.Showing.Collects.{collects_kcss}
use Rattle.steps_lawful.specs.Showing.CollectPhase.{at_s6}
use Rattle.steps_lawful.specs.Showing.Shows.{shows_link, shows_collect, shows_swap}
use Rattle.steps_lawful.proofs.Performing.{Stuck}
use Rattle.steps_lawful.proofs.Fitting.{headed}
use Rattle.steps_lawful.proofs.Reading.{ReadBy, by_reading}
use Rattle.steps_lawful.proofs.Reading.ReadBy.{goes_on, ends, sticks}

-- its access is at the location of what it is made for
opened : {V : Type 0} {kind : OperationKind} {ops : List (Operand V)} {new : Option V} {J : Job V} → Links kind ops new J → (g : ℕ → Line × Access V)
    → cond (suiting.links kind) (with_place (operand_at ops 0) (λ a. Some (g a))) None ≡ Some (g (place_of J))
opened links_ll g = refl
opened (links_kcss _ _) g = refl

module _ {V : Type 0} (code : V → ℕ) (N : Type 0) (t p n b : ℕ) (w : World V) (own : w.tag p ≡ n) (m c : ℕ) (v : V) (f : Bool) where
  -- 9 writes own id
  noted : (a : ℕ) → cells_of (after (note p a) w) ≡ put w (Tid a) (id_cell p n)
  noted a = ap (λ (k : ℕ). put w (Tid a) (id_cell p k)) own

  -- 9: it ends an LL; in a KCSS 11 follows, or S6 if there are other operands
  note_steps : (kind : OperationKind) (ops : List (Operand V)) (new : Option V) (J : Job V) → Links kind ops new J
      → Steps Shows t p n b maybe.none code N w (runs kind ops new (Note (Value v)) m c f) (to_note J v m)
  note_steps _ _ _ _ links_ll = (_, _, _, line_9_ll, noted _, (_, _, refl, refl, refl, refl))
  note_steps _ _ _ _ (links_kcss {rest = rest} {k = zero} ex fits) =
      rw (le-ltb 1 (suc (length rest)) (omega (arith, fits.count)))
      (_, _, _, line_9_one, noted _, (_, refl, refl, shows_swap ex refl (headed (put_first v) fits) refl))
  note_steps _ _ _ _ (links_kcss {rest = rest} {k = suc k} ex fits) =
      rw (lt-ltb 1 (suc (length rest)) (omega (arith, fits.count)))
      (_, _, _, line_9_more, noted _, (_, refl, refl, shows_collect 0 1 (collects_kcss ex refl) (headed (put_first v) fits) at_s6 (omega arith) refl))

module _ {V : Type 0} (code : V → ℕ) (N : Type 0) (t p n b : ℕ) (w : World V) (own : w.tag p ≡ n) (kind : OperationKind)
    (ops : List (Operand V)) (new : Option V) (J : Job V) (links : Links kind ops new J) (m c : ℕ) where
  abbrev S : Phase V → Bool → Running V
  S phase f = runs kind ops new phase m c f

  abbrev Going : Running V → relation.Phase V → Seen V → Cells V → Type 0
  Going = Goes Shows t p n b maybe.none code N w

  abbrev Stepping : Running V → relation.Phase V → Type 0
  Stepping = Steps Shows t p n b maybe.none code N w

  -- the first 13 of a fresh attempt, from the start or after an 11 that said no
  attempt_goes : (x : Cell V) → w.val (place_of J) ≡ x → Going (S Attempt false) (attempt J) (Found x) (cells_of w)
  attempt_goes (Value v) e = (begin p, _, _, attempt_value e, refl, (_, refl, refl, shows_link links at_7))
  attempt_goes (Id k) e = (begin p, _, _, attempt_id k e, refl, (_, refl, refl, shows_link links at_read))

  -- the same, after an 8 that said no
  again_goes : (x : Cell V) → w.val (place_of J) ≡ x → Going (S Attempt true) (attempt_again J) (Found x) (cells_of w)
  again_goes (Value v) e = (begin p, _, _, again_value e, refl, (_, refl, refl, shows_link links at_7))
  again_goes (Id k) e = (begin p, _, _, again_id k e, refl, (_, refl, refl, shows_link links at_read))

  module _ (f : Bool) where
    -- the rest of its READ
    linking_goes : (s : ReadPhase V) → Stuck N p maybe.none w (linking J (read_phase s)) → (seen : Seen V) (cells : Cells V)
        → ReadBy w p (place_of J) s seen cells → Going (S (Linking s) f) (linking J (read_phase s)) seen cells
    linking_goes s stuck seen cells (goes_on turn line kept) = rw turn (_, _, _, link_on line, kept, (_, refl, refl, shows_link links at_read))
    linking_goes s stuck seen cells (ends turn line kept) = rw turn (_, _, _, link_got line, kept, (_, refl, refl, shows_link links at_7))
    linking_goes s stuck seen cells (sticks turn bad) = rw turn (stuck (λ _ h. bad h.1))

    linking_steps : (s : ReadPhase V) → Stuck N p maybe.none w (linking J (read_phase s)) → Stepping (S (Linking s) f) (linking J (read_phase s))
    linking_steps s stuck = rw (opened links (λ a. read_access a s)) (by_reading w p (place_of J) s (linking_goes s stuck))

    -- 8
    mark_steps : (v : V) → Stepping (S (Mark (Value v)) f) (to_mark J v)
    mark_steps v = rw (opened links (λ a. (L8, Cas (Val a) (Value v) (id_cell p n)))) (
      (λ e. (
        mark p (place_of J) v,
        _,
        _,
        line_8_yes e,
        ap (λ (k : ℕ). put w (Val (place_of J)) (id_cell p k)) own,
        (_, refl, refl, shows_link links at_9),
      )),
      (λ h. (look p, _, _, line_8_no h, refl, (_, refl, refl, shows_link links at_again))),
    )

  -- every line of an LL, whatever it is made for
  pub link_steps : (phase : Phase V) (f : Bool) (ph : relation.Phase V) → LinkPhase J phase m f ph → Stuck N p maybe.none w ph → Stepping (S phase f) ph
  link_steps _ _ _ at_attempt stuck = rw (opened links (λ a. (L13, Load (Val a)))) (attempt_goes (w.val (place_of J)) refl)
  link_steps _ _ _ at_again stuck = rw (opened links (λ a. (L13, Load (Val a)))) (again_goes (w.val (place_of J)) refl)
  link_steps _ f _ (at_read {s = s}) stuck = linking_steps f s stuck
  link_steps _ f _ (at_7 {v = v}) stuck = rw (opened links (λ a. (L7, Store (Saved p) (Value v)))) (save p v, _, _, line_7, refl, (_, refl, refl, shows_link links at_8))
  link_steps _ f _ (at_8 {v = v}) stuck = mark_steps f v
  link_steps _ f _ (at_9 {v = v}) stuck = note_steps code N t p n b w own m c v f kind ops new J links
