-- A run is a history: each of its events is possible, by what its process knows of the past.
use Rattle.std.proofs.Common.{◌≡◌, ℕ, zero, suc, ◌≤◌, List, sym, refl, ap, ◌∙◌, subst, inl, inr, arith}
use mathlib.Core.Option.{Option}
use native.Mathlib.Decide.{ℕ_discrete}
use Rattle.memory.specs.declared.cell.Cell.TheVariants.{Value}
use Rattle.protocol.specs.World.{World, id_cell, changed}
use Rattle.protocol.specs.Events.{Event, maker, Possible, after}
use Rattle.protocol.specs.Events.Event.{look, begin, save, mark, note, commit, fail, reset}
use Rattle.protocol.specs.Operations.{Request}
use Rattle.protocol.specs.Phases.{ReadPhase, Process, Done, stage_of, tag_of}
use Rattle.protocol.specs.Lines.{ReadTurn, ReadLine, Line}
use Rattle.protocol.specs.Lines.ReadLine.{line_13_value, line_13_id, line_1_value, line_1_id, line_3a, line_3b_yes, line_3b_no}
use Rattle.protocol.specs.Lines.Line.{read_on, read_got, attempt_value, attempt_id, again_value, again_id, link_on, link_got, line_7, line_8_yes, line_8_no}
use Rattle.protocol.specs.Lines.Line.{line_9_ll, line_9_one, line_9_more, sc_yes, sc_no, s6_on, s6_end, c1_on, c1_got, c1_end, c2_on, c2_got, c2_end, s9_on}
use Rattle.protocol.specs.Lines.Line.{s9_again, s9_solo, s9_inside, kcss_one, kcss_yes, kcss_retry, kcss_first, kcss_first_gone, kcss_other, kcss_other_gone}
use Rattle.protocol.specs.Runs.{Begins, Machine, world, Given, Begun, Call, Run, IsLine}
use Rattle.protocol.specs.Runs.Begins.{begins_read, begins_ll, begins_sc, begins_snapshot, begins_kcss}
use Rattle.protocol.specs.Runs.Begun.{no_more, and_then}
use Rattle.protocol.specs.Runs.Call.{steps, pauses}
use Rattle.protocol.proofs.Changes.{clash, changed_here, changed_else}
use Rattle.protocol.specs.History.{Opened, History}
use Rattle.protocol.specs.Traces.{RunsAreHistories}
use Rattle.protocol.proofs.Prefix.{every_step}
use Rattle.protocol.proofs.Marks.{put_of, stood_since, saved_stays}
use Rattle.protocol.proofs.Turning.{Fits, fits, fits_maker, begun_same, call_turns, call_maker}
use Rattle.protocol.proofs.Knowing.{W, ReadInv, PInv, still}
use Rattle.protocol.proofs.Moving.{own_step}

-- a property of the processes after one of them moved
pub at_move : {V : Type 0} (Q : ℕ → Process V → Type 0) (g : ℕ → Process V) (m : ℕ) (r : Process V) → Q m r → ((p : ℕ) → (p ≡ m → ⊥) → Q p (g p)) → (p : ℕ) → Q p (changed g m r p)
at_move Q g m r here there p =
    elim (ℕ_discrete p m) [
      | yes i ↦ subst (λ x. Q x (changed g m r x)) (sym i) (subst (Q m) (sym (changed_here g m r)) here)
      | no h ↦ subst (Q p) (sym (changed_else g m r p h)) (there p h)
    ]

other_saved : {V : Type 0} (e : Event V) (m p : ℕ) (r r' : Process V) (w : World V) → Fits e m r r' → (p ≡ m → ⊥) → (after e w).saved p ≡ w.saved p
other_saved (look q) m p r r' w f h = refl
other_saved (begin q) m p r r' w f h = refl
other_saved (save q v) m p r r' w f h = changed_else w.saved q (Value v) p (λ z. h (z ∙ f.0))
other_saved (mark q a v) m p r r' w f h = refl
other_saved (note q a) m p r r' w f h = refl
other_saved (commit q a v) m p r r' w f h = refl
other_saved (fail q a) m p r r' w f h = refl
other_saved (reset q a v) m p r r' w f h = refl

module _ {V : Type 0} (R : Run V) where
  begin_own : (t p : ℕ) {q : Request V} {r r' : Process V} → Begins t r q r' → PInv R t p r → PInv R t p r'
  begin_own t p (begins_read a) i = (i.0, tt, omega arith)
  begin_own t p (begins_ll a) i = (tt, tt, omega arith)
  begin_own t p (begins_sc a u) i = (tt, (i.0, λ c b v h l. absurd (omega arith)), omega arith)
  begin_own t p (begins_snapshot rows k) i = (i.0, (tt, omega arith, λ j h. absurd (omega arith)), omega arith)
  begin_own t p (begins_kcss a x u rows k) i = (tt, tt, omega arith)

  pub begun_knows : (t : ℕ) {m b : Machine V} {list : List (Given V)} → Begun t m list b → ((p : ℕ) → PInv R t p (m.processes p)) → (p : ℕ) → PInv R t p (b.processes p)
  begun_knows t no_more ih p = ih p
  begun_knows t (and_then {m' = m'} x q z r y) ih p =
      at_move (PInv R t) m'.processes q r (begin_own t q y (begun_knows t x ih q)) (λ z h. begun_knows t x ih z) p

  -- the line of a step, in the world that the last step left
  pub its_line : (t p : ℕ) {b : Machine V} {list : List (Given V)} {r r' : Process V} {e : Event V} {d : Option (Done V)} → Begun t (R.at t) list b → Line t p (world b) r e r' d → Line t p (W R t) r e r' d
  its_line t p {r = r} {r' = r'} {e = e} {d = d} y l = subst (λ w. Line t p w r e r' d) (begun_same y) l

  pub its_tag : (t p : ℕ) {b : Machine V} {list : List (Given V)} → Begun t (R.at t) list b → (W R t).tag p ≡ tag_of (b.processes p)
  its_tag t p y = ap (λ w. w.tag p) (sym (begun_same y))

  pub its_stage : (t p : ℕ) {b : Machine V} {list : List (Given V)} → Begun t (R.at t) list b → (W R t).stage p ≡ stage_of (b.processes p)
  its_stage t p y = ap (λ w. w.stage p) (sym (begun_same y))

  know_step : (t : ℕ) {list : List (Given V)} {e : Event V} {d : Option (Done V)} (c : Call t (R.who t) (R.at t) (R.at (suc t)) list e d) → (IsLine c → IsLine (R.call t)) → R.event t ≡ e → R.out t ≡ d
      → ((p : ℕ) → PInv R t p ((R.at t).processes p)) → (p : ℕ) → PInv R (suc t) p ((R.at (suc t)).processes p)
  know_step t (steps list b y r e d l x) is ev o ih p =
      subst (PInv R (suc t) p) (sym (ap (λ m. m.processes p) x))
      (at_move (PInv R (suc t)) b.processes (R.who t) r
      (own_step R t (R.who t) (its_line t (R.who t) y l) ev o (refl, is tt) (call_turns (steps list b y r e d l x))
      (its_tag t (R.who t) y) (its_stage t (R.who t) y) (begun_knows t y ih (R.who t)))
      (λ q h. still R t q (b.processes q)
      (ap (λ m. m.saved q) x ∙ other_saved e (R.who t) q (b.processes (R.who t)) r (world b) (fits l) h ∙ ap (λ w. w.saved q) (begun_same y))
      (λ w. absurd (h (sym w)))
      (λ a v z. h (sym (ap maker (sym ev ∙ z)) ∙ fits_maker e (R.who t) (b.processes (R.who t)) r (fits l)))
      (begun_knows t y ih q)) p)
  know_step t (pauses x) is ev o ih p =
      subst (PInv R (suc t) p) (sym (ap (λ m. m.processes p) x)) (still R t p ((R.at t).processes p) (ap (λ m. m.saved p) x) (λ w. o) (λ a v z. clash (cc)) (ih p))

  pub knows : (t p : ℕ) → PInv R t p ((R.at t).processes p)
  knows zero p = subst (PInv R 0 p) (sym (R.rested p)) (tt, tt, omega arith)
  knows (suc t) p = know_step t (R.call t) (λ i. i) refl refl (knows t) p

  -- what a reader kept still holds while the mark is there
  kept : (n : ℕ) (K : History V) → ((t : ℕ) → t ≤ n → K.at t ≡ W R t) → (s u a q τ : ℕ) (v : V) → s ≤ u → u ≤ n
      → (W R s).val a ≡ id_cell q τ → (W R n).val a ≡ id_cell q τ → (W R u).saved q ≡ Value v → (W R n).saved q ≡ Value v
  kept n K same s u a q τ v h k x y z =
      let x' : (K.at s).val a ≡ id_cell q τ = ap (λ w. w.val a) (same s (omega arith)) ∙ x in
      let y' : (K.at n).val a ≡ id_cell q τ = ap (λ w. w.val a) (same n (omega arith)) ∙ y in
      let m = stood_since K s n a q τ (put_of K s a q τ x') y' u h k in
      let e = saved_stays K u n a q τ k m y' in
      sym (ap (λ w. w.saved q) (same n (omega arith))) ∙ e ∙ ap (λ w. w.saved q) (same u k) ∙ z

  sub_can : (t : ℕ) (K : History V) → ((s : ℕ) → s ≤ t → K.at s ≡ W R s) → {p a : ℕ} {s : ReadPhase V} {e : Event V} {o : ReadTurn V} → ReadLine (W R t) p a s e o → ReadInv R t a s → Possible e (W R t)
  sub_can t K same (line_13_value v x) i = tt
  sub_can t K same (line_13_id k x) i = tt
  sub_can t K same (line_1_value v x) i = tt
  sub_can t K same (line_1_id k x) i = tt
  sub_can t K same (line_3a k v x) i = tt
  sub_can t K same {a = a} (line_3b_yes k v x) i = (k.process, k.tag, x, kept t K same i.0 i.1 a k.process k.tag v i.2 (let h = i.3 in omega arith) i.4 x i.5)
  sub_can t K same (line_3b_no k v x) i = tt

  line_can : (t p : ℕ) (K : History V) → ((s : ℕ) → s ≤ t → K.at s ≡ W R s) → {r r' : Process V} {e : Event V} {d : Option (Done V)} → Line t p (W R t) r e r' d
      → (W R t).tag p ≡ tag_of r → (W R t).stage p ≡ stage_of r → PInv R t p r → Possible e (W R t)
  line_can t p K same (read_on x) g s i = sub_can t K same x i.1
  line_can t p K same (read_got x) g s i = sub_can t K same x i.1
  line_can t p K same (attempt_value x) g s i = inl s
  line_can t p K same (attempt_id k x) g s i = inl s
  line_can t p K same (again_value x) g s i = inr s
  line_can t p K same (again_id k x) g s i = inr s
  line_can t p K same (link_on x) g s i = sub_can t K same x i.1
  line_can t p K same (link_got x) g s i = sub_can t K same x i.1
  line_can t p K same line_7 g s i = s
  line_can t p K same (line_8_yes x) g s i = (s, x, i.1)
  line_can t p K same (line_8_no x) g s i = tt
  line_can t p K same line_9_ll g s i = s
  line_can t p K same line_9_one g s i = s
  line_can t p K same line_9_more g s i = s
  line_can t p K same (sc_yes x) g s i = (s, x ∙ ap (λ z. id_cell p z) (sym g))
  line_can t p K same (sc_no x) g s i = (s, λ y. x (y ∙ ap (λ z. id_cell p z) g))
  line_can t p K same (s6_on x) g s i = tt
  line_can t p K same (s6_end x) g s i = tt
  line_can t p K same (c1_on x) g s i = sub_can t K same x i.1.2
  line_can t p K same (c1_got x y) g s i = sub_can t K same x i.1.2
  line_can t p K same (c1_end x y) g s i = sub_can t K same x i.1.2
  line_can t p K same (c2_on x) g s i = sub_can t K same x i.1.2
  line_can t p K same (c2_got x y) g s i = sub_can t K same x i.1.2
  line_can t p K same (c2_end x y) g s i = sub_can t K same x i.1.2
  line_can t p K same (s9_on x) g s i = tt
  line_can t p K same (s9_again x y z) g s i = tt
  line_can t p K same (s9_solo x y z) g s i = tt
  line_can t p K same (s9_inside x y z) g s i = tt
  line_can t p K same (kcss_one x y) g s i = (s, y ∙ ap (λ z. id_cell p z) (sym g))
  line_can t p K same (kcss_yes x z y) g s i = (s, y ∙ ap (λ z. id_cell p z) (sym g))
  line_can t p K same (kcss_retry x z y) g s i = (s, λ k. y (k ∙ ap (λ z. id_cell p z) g))
  line_can t p K same (kcss_first x y) g s i = (s, y ∙ ap (λ z. id_cell p z) (sym g))
  line_can t p K same (kcss_first_gone x y) g s i = (s, λ k. y (k ∙ ap (λ z. id_cell p z) g))
  line_can t p K same (kcss_other x z u y) g s i = (s, y ∙ ap (λ z. id_cell p z) (sym g))
  line_can t p K same (kcss_other_gone x z u y) g s i = (s, λ k. y (k ∙ ap (λ z. id_cell p z) g))

  call_can : (t : ℕ) (K : History V) → ((s : ℕ) → s ≤ t → K.at s ≡ W R s) → {list : List (Given V)} {e : Event V} {d : Option (Done V)} → Call t (R.who t) (R.at t) (R.at (suc t)) list e d → Possible e (W R t)
  call_can t K same (steps list b y r e d l x) =
      line_can t (R.who t) K same (its_line t (R.who t) y l) (its_tag t (R.who t) y) (its_stage t (R.who t) y) (begun_knows t y (knows t) (R.who t))
  call_can t K same (pauses x) = tt

  pub opens : Opened (W R 0) R.initial
  opens = record { vals = R.vals; tids = R.tids; saves = R.saves; tags = λ p. ap tag_of (R.rested p); stages = λ p. ap stage_of (R.rested p) }

  pub turns : (t : ℕ) → W R (suc t) ≡ after (R.event t) (W R t)
  turns t = call_turns (R.call t)

  pub can : (t : ℕ) → Possible (R.event t) (W R t)
  can = every_step (W R) R.event R.initial opens turns (λ n K same. call_can n K same (R.call n))

  abbrev pub history : History V
  history = record { at = W R; event = R.event; initial = R.initial; opened = opens; possible = can; leads = turns }

pub traces : {V : Type 0} → RunsAreHistories V
traces R = record { opened = opens R; made_by = λ t. call_maker (R.call t); possible = can R; leads = turns R }
