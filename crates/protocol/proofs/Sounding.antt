-- Every line of a process keeps the machine sound for it.
use Rattle.std.proofs.Common.{◌≡◌, ℕ, sym, ap, ◌∙◌, subst, inl, inr}
use mathlib.Core.Option.{Option}
use Rattle.memory.specs.declared.cell.Cell.TheVariants.{Value, Id}
use Rattle.memory.specs.declared.cell.TaggedId.{TaggedId}
use Rattle.protocol.specs.World.{World, changed, own_id}
use Rattle.protocol.specs.Events.{Event, after}
use Rattle.protocol.specs.Events.Event.{look, begin, save, mark, note, commit, fail, reset}
use Rattle.protocol.specs.Phases.{ReadPhase, Process, Done}
use Rattle.protocol.specs.Lines.{Line, ReadLine}
use Rattle.protocol.specs.Lines.ReadTurn.{on}
use Rattle.protocol.specs.Lines.ReadLine.{line_13_value, line_13_id, line_1_value, line_1_id, line_3a, line_3b_yes, line_3b_no}
use Rattle.protocol.specs.Lines.Line.{read_on, read_got, attempt_value, attempt_id, again_value, again_id, link_on, link_got, line_7, line_8_yes, line_8_no}
use Rattle.protocol.specs.Lines.Line.{line_9_ll, line_9_one, line_9_more, sc_yes, sc_no, s6_on, s6_end, c1_on, c1_got, c1_end, c2_on, c2_got, c2_end, s9_on}
use Rattle.protocol.specs.Lines.Line.{s9_again, s9_solo, s9_inside, kcss_one, kcss_yes, kcss_retry, kcss_first, kcss_first_gone, kcss_other, kcss_other_gone}
use Rattle.protocol.specs.Runs.{Machine, world, turned}
use Rattle.protocol.specs.Sound.{Backed, CellsSound, ReadSound, ProcessSound, Sound}
use Rattle.protocol.proofs.Changes.{clash, changed_here, here_or_else}

-- a mark is put only by a process with a saved value
abbrev pub Fine : {V : Type 0} → Event V → World V → Type 0
Fine (look q) w = Unit {0}
Fine (begin q) w = Unit {0}
Fine (save q v) w = Unit {0}
Fine (mark q a v) w = w.saved q ≡ Value v
Fine (note q a) w = Unit {0}
Fine (commit q a v) w = Unit {0}
Fine (fail q a) w = Unit {0}
Fine (reset q a v) w = Unit {0}

module _ {V : Type 0} (w : World V) (S : CellsSound w) where
  with_value : (a : ℕ) (v : V) (b : ℕ) (k : TaggedId) → changed w.val a (Value v) b ≡ Id k → Backed w.saved k
  with_value a v b k e =
      elim (here_or_else w.val a (Value v) b) [
        | inl h ↦ (let x = h.1 in clash (cc))
        | inr h ↦ S.vals b k (sym h ∙ e)
      ]

  with_mark : (a q : ℕ) (v : V) → w.saved q ≡ Value v → (b : ℕ) (k : TaggedId) → changed w.val a (own_id w q) b ≡ Id k → Backed w.saved k
  with_mark a q v s b k e =
      elim (here_or_else w.val a (own_id w q) b) [
        | inl h ↦ (let x = h.1 in let i : q ≡ k.process = cc in (v, ap w.saved (sym i) ∙ s))
        | inr h ↦ S.vals b k (sym h ∙ e)
      ]

  pub with_saved : (q : ℕ) (v : V) (k : TaggedId) → Backed w.saved k → Backed (changed w.saved q (Value v)) k
  with_saved q v k (x, e) =
      elim (here_or_else w.saved q (Value v) k.process) [
        | inl h ↦ (v, h.1)
        | inr h ↦ (x, h ∙ e)
      ]

  with_note : (a q b : ℕ) → (k : TaggedId) × (changed w.tid a (own_id w q) b ≡ Id k)
  with_note a q b =
      elim (here_or_else w.tid a (own_id w q) b) [
        | inl h ↦ (record { process = q; tag = w.tag q }, h.1)
        | inr h ↦ ((S.tids b).0, h ∙ (S.tids b).1)
      ]

  pub cells_after : (e : Event V) → Fine e w → CellsSound (after e w)
  cells_after (look q) f = S
  cells_after (begin q) f = record { vals = S.vals; tids = S.tids }
  cells_after (save q v) f = record { vals = λ a k e. with_saved q v k (S.vals a k e); tids = S.tids }
  cells_after (mark q a v) f = record { vals = with_mark a q v f; tids = S.tids }
  cells_after (note q a) f = record { vals = S.vals; tids = with_note a q }
  cells_after (commit q a v) f = record { vals = with_value a v; tids = S.tids }
  cells_after (fail q a) f = record { vals = S.vals; tids = S.tids }
  cells_after (reset q a v) f = record { vals = with_value a v; tids = S.tids }

module _ {V : Type 0} {p : ℕ} {w : World V} (S : CellsSound w) where
  read_fine : {a : ℕ} {s s' : ReadPhase V} {e : Event V} → ReadLine w p a s e (on s') → ReadSound w.saved s → Fine e w × ReadSound (after e w).saved s'
  read_fine (line_13_id k x) h = (tt, tt)
  read_fine (line_1_value v x) h = (tt, tt)
  read_fine {a = a} (line_1_id k x) h = (tt, S.vals a k x)
  read_fine (line_3a k v x) h = (tt, tt)
  read_fine (line_3b_yes k v x) h = (tt, tt)
  read_fine (line_3b_no k v x) h = (tt, tt)

  pub fine : {t : ℕ} {r r' : Process V} {e : Event V} {d : Option (Done V)} → Line t p w r e r' d → ProcessSound w.saved p r
      → Fine e w × ProcessSound (after e w).saved p r'
  fine (read_on x) h = read_fine x h
  fine (read_got (line_13_value v x)) h = (tt, tt)
  fine (attempt_value x) h = (tt, h)
  fine (attempt_id k x) h = (tt, (h, tt))
  fine (again_value x) h = (tt, h)
  fine (again_id k x) h = (tt, (h, tt))
  fine (link_on x) (f, h) = let g = read_fine x h in (g.0, (f, g.1))
  fine (link_got (line_13_value v x)) (f, h) = (tt, f)
  fine (line_7 {v = v}) h = (tt, (h, changed_here w.saved p (Value v)))
  fine (line_8_yes x) (f, h) = (h, f)
  fine (line_8_no x) (f, h) = (tt, f)
  fine line_9_ll h = (tt, tt)
  fine line_9_one h = (tt, h)
  fine line_9_more h = (tt, h)
  fine (sc_yes x) h = (tt, tt)
  fine (sc_no x) h = (tt, tt)
  fine (s6_on x) h = (tt, h)
  fine (s6_end x) h = (tt, (h, tt))
  fine (c1_on x) (f, h) = let g = read_fine x h in (g.0, (f, g.1))
  fine (c1_got (line_13_value v x) y) (f, h) = (tt, (f, tt))
  fine (c1_end (line_13_value v x) y) (f, h) = (tt, (f, tt))
  fine (c2_on x) (f, h) = let g = read_fine x h in (g.0, (f, g.1))
  fine (c2_got (line_13_value v x) y) (f, h) = (tt, (f, tt))
  fine (c2_end (line_13_value v x) y) (f, h) = (tt, f)
  fine (s9_on x) h = (tt, h)
  fine (s9_again x y z) h = (tt, h)
  fine (s9_solo x y z) h = (tt, tt)
  fine (s9_inside x y z) h = (tt, h)
  fine (kcss_one x y) h = (tt, tt)
  fine (kcss_yes x y z) h = (tt, tt)
  fine (kcss_retry x y z) h = (tt, h)
  fine (kcss_first x y) h = (tt, tt)
  fine (kcss_first_gone x y) h = (tt, tt)
  fine (kcss_other x y z u) h = (tt, tt)
  fine (kcss_other_gone x y z u) h = (tt, tt)

pub stays_sound : {V : Type 0} (t p : ℕ) (m : Machine V) (e : Event V) (r : Process V) (d : Option (Done V))
    → Line t p (world m) (m.processes p) e r d → Sound m p → Sound (turned m e p r) p
stays_sound {V = V} t p m e r d l S =
    let f = fine S.cells l S.process in
    let c = cells_after (world m) S.cells e f.0 in
    record {
      cells = record { vals = c.vals; tids = c.tids };
      process = subst (λ (x : Process V). ProcessSound (after e (world m)).saved p x) (sym (changed_here m.processes p r)) f.1;
    }
