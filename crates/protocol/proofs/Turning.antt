-- A line is one event of the world of its machine.
use Rattle.std.proofs.Common.{◌≡◌, ℕ, suc, List, sym, refl, ap, ◌∙◌, subst}
use mathlib.Core.Path.{fun_ext}
use mathlib.Core.Option.{Option}
use native.Mathlib.Decide.{ℕ_discrete}
use Rattle.protocol.specs.World.{Stage, World, changed}
use Rattle.protocol.specs.World.Stage.{idle, fresh, held, armed}
use Rattle.protocol.specs.Events.{Event, maker, after}
use Rattle.protocol.specs.Events.Event.{look, begin, save, mark, note, commit, fail, reset}
use Rattle.protocol.specs.Operations.{Request}
use Rattle.protocol.specs.Phases.{ReadPhase, Process, Done, stage_of, tag_of}
use Rattle.protocol.specs.Lines.{ReadTurn, ReadLine, Line}
use Rattle.protocol.specs.Lines.ReadLine.{line_13_value, line_13_id, line_1_value, line_1_id, line_3a, line_3b_yes, line_3b_no}
use Rattle.protocol.specs.Lines.Line.{read_on, read_got, attempt_value, attempt_id, again_value, again_id, link_on, link_got, line_7, line_8_yes, line_8_no}
use Rattle.protocol.specs.Lines.Line.{line_9_ll, line_9_one, line_9_more, sc_yes, sc_no, s6_on, s6_end, c1_on, c1_got, c1_end, c2_on, c2_got, c2_end, s9_on}
use Rattle.protocol.specs.Lines.Line.{s9_again, s9_solo, s9_inside, kcss_one, kcss_yes, kcss_retry, kcss_first, kcss_first_gone, kcss_other, kcss_other_gone}
use Rattle.protocol.specs.Runs.{Begins, Machine, world, Given, Begun, turned, Call}
use Rattle.protocol.specs.Runs.Begins.{begins_read, begins_ll, begins_sc, begins_snapshot, begins_kcss}
use Rattle.protocol.specs.Runs.Begun.{no_more, and_then}
use Rattle.protocol.specs.Runs.Call.{steps, pauses}
use Rattle.protocol.proofs.Changes.{changed_here, changed_else}

-- what an event says of the process that moves
abbrev pub Fits : {V : Type 0} → Event V → ℕ → Process V → Process V → Type 0
Fits (look q) p r r' = (q ≡ p) × (tag_of r' ≡ tag_of r) × (stage_of r' ≡ stage_of r)
Fits (begin q) p r r' = (q ≡ p) × (tag_of r' ≡ suc (tag_of r)) × (stage_of r' ≡ fresh)
Fits (save q v) p r r' = (q ≡ p) × (tag_of r' ≡ tag_of r) × (stage_of r' ≡ stage_of r)
Fits (mark q a v) p r r' = (q ≡ p) × (tag_of r' ≡ tag_of r) × (stage_of r' ≡ held a)
Fits (note q a) p r r' = (q ≡ p) × (tag_of r' ≡ tag_of r) × (stage_of r' ≡ armed a)
Fits (commit q a v) p r r' = (q ≡ p) × (tag_of r' ≡ tag_of r) × (stage_of r' ≡ idle)
Fits (fail q a) p r r' = (q ≡ p) × (tag_of r' ≡ tag_of r) × (stage_of r' ≡ idle)
Fits (reset q a v) p r r' = (q ≡ p) × (tag_of r' ≡ tag_of r) × (stage_of r' ≡ stage_of r)

pub fits_maker : {V : Type 0} (e : Event V) (p : ℕ) (r r' : Process V) → Fits e p r r' → maker e ≡ p
fits_maker (look q) p r r' f = f.0
fits_maker (begin q) p r r' f = f.0
fits_maker (save q v) p r r' f = f.0
fits_maker (mark q a v) p r r' f = f.0
fits_maker (note q a) p r r' f = f.0
fits_maker (commit q a v) p r r' f = f.0
fits_maker (fail q a) p r r' f = f.0
fits_maker (reset q a v) p r r' f = f.0

sub_fits : {V : Type 0} {w : World V} {p a : ℕ} {s : ReadPhase V} {e : Event V} {o : ReadTurn V} → ReadLine w p a s e o
    → (r r' : Process V) → tag_of r' ≡ tag_of r → stage_of r' ≡ stage_of r → Fits e p r r'
sub_fits (line_13_value v x) r r' f g = (refl, f, g)
sub_fits (line_13_id k x) r r' f g = (refl, f, g)
sub_fits (line_1_value v x) r r' f g = (refl, f, g)
sub_fits (line_1_id k x) r r' f g = (refl, f, g)
sub_fits (line_3a k v x) r r' f g = (refl, f, g)
sub_fits (line_3b_yes k v x) r r' f g = (refl, f, g)
sub_fits (line_3b_no k v x) r r' f g = (refl, f, g)

pub fits : {V : Type 0} {t p : ℕ} {w : World V} {r r' : Process V} {e : Event V} {d : Option (Done V)} → Line t p w r e r' d → Fits e p r r'
fits {r = r} {r' = r'} (read_on x) = sub_fits x r r' refl refl
fits {r = r} {r' = r'} (read_got x) = sub_fits x r r' refl refl
fits (attempt_value x) = (refl, refl, refl)
fits (attempt_id k x) = (refl, refl, refl)
fits (again_value x) = (refl, refl, refl)
fits (again_id k x) = (refl, refl, refl)
fits {r = r} {r' = r'} (link_on x) = sub_fits x r r' refl refl
fits {r = r} {r' = r'} (link_got x) = sub_fits x r r' refl refl
fits line_7 = (refl, refl, refl)
fits (line_8_yes x) = (refl, refl, refl)
fits (line_8_no x) = (refl, refl, refl)
fits line_9_ll = (refl, refl, refl)
fits line_9_one = (refl, refl, refl)
fits line_9_more = (refl, refl, refl)
fits (sc_yes x) = (refl, refl, refl)
fits (sc_no x) = (refl, refl, refl)
fits (s6_on x) = (refl, refl, refl)
fits (s6_end x) = (refl, refl, refl)
fits {r = r} {r' = r'} (c1_on x) = sub_fits x r r' refl refl
fits {r = r} {r' = r'} (c1_got x y) = sub_fits x r r' refl refl
fits {r = r} {r' = r'} (c1_end x y) = sub_fits x r r' refl refl
fits {r = r} {r' = r'} (c2_on x) = sub_fits x r r' refl refl
fits {r = r} {r' = r'} (c2_got x y) = sub_fits x r r' refl refl
fits {r = r} {r' = r'} (c2_end x y) = sub_fits x r r' refl refl
fits (s9_on x) = (refl, refl, refl)
fits (s9_again x y z) = (refl, refl, refl)
fits (s9_solo x y z) = (refl, refl, refl)
fits (s9_inside x y z) = (refl, refl, refl)
fits (kcss_one x y) = (refl, refl, refl)
fits (kcss_yes x y z) = (refl, refl, refl)
fits (kcss_retry x y z) = (refl, refl, refl)
fits (kcss_first x y) = (refl, refl, refl)
fits (kcss_first_gone x y) = (refl, refl, refl)
fits (kcss_other x y z u) = (refl, refl, refl)
fits (kcss_other_gone x y z u) = (refl, refl, refl)

pub begins_fit : {V : Type 0} {t : ℕ} {q : Request V} {r r' : Process V} → Begins t r q r' → (tag_of r' ≡ tag_of r) × (stage_of r' ≡ stage_of r)
begins_fit (begins_read a) = (refl, refl)
begins_fit (begins_ll a) = (refl, refl)
begins_fit (begins_sc a u) = (refl, refl)
begins_fit (begins_snapshot rows k) = (refl, refl)
begins_fit (begins_kcss a x u rows k) = (refl, refl)

-- a function of the processes after one moved
pub kept : {A X : Type 0} (f : A → X) (g : ℕ → A) (p : ℕ) (r : A) → f r ≡ f (g p) → (q : ℕ) → f (changed g p r q) ≡ f (g q)
kept f g p r e q = elim (ℕ_discrete q p) [ yes i ↦ ap f (ap (changed g p r) i ∙ changed_here g p r) ∙ e ∙ ap (λ x. f (g x)) (sym i) | no h ↦ ap f (changed_else g p r q h) ]

moved : {A X : Type 0} (f : A → X) (g : ℕ → A) (p : ℕ) (r : A) (x : X) → f r ≡ x → (q : ℕ) → f (changed g p r q) ≡ changed (λ z. f (g z)) p x q
moved {X = X} f g p r x e q =
    elim (ℕ_discrete q p) [
      | yes i ↦ ap f (ap (changed g p r) i ∙ changed_here g p r) ∙ e ∙ sym (ap (changed (λ z. f (g z)) p x) i ∙ changed_here (λ z. f (g z)) p x)
      | no h ↦ ap f (changed_else g p r q h) ∙ sym (changed_else (λ z. f (g z)) p x q h)
    ]

like : {V : Type 0} (w : World V) (tag : ℕ → ℕ) (stage : ℕ → Stage) → ((q : ℕ) → w.tag q ≡ tag q) → ((q : ℕ) → w.stage q ≡ stage q)
    → w ≡ record { val = w.val; tid = w.tid; saved = w.saved; tag = tag; stage = stage }
like w tag stage f g = λ i. record { val = w.val; tid = w.tid; saved = w.saved; tag = fun_ext f i; stage = fun_ext g i }

pub turn : {V : Type 0} (m : Machine V) (e : Event V) (p : ℕ) (r : Process V) → Fits e p (m.processes p) r → world (turned m e p r) ≡ after e (world m)
turn m (look q) p r f = subst (λ x. world (turned m (look x) p r) ≡ after (look x) (world m)) (sym f.0)
    (like _ _ _ (kept tag_of m.processes p r f.1) (kept stage_of m.processes p r f.2))
turn m (begin q) p r f = subst (λ x. world (turned m (begin x) p r) ≡ after (begin x) (world m)) (sym f.0)
    (like _ _ _ (moved tag_of m.processes p r (suc (tag_of (m.processes p))) f.1) (moved stage_of m.processes p r fresh f.2))
turn m (save q v) p r f = subst (λ x. world (turned m (save x v) p r) ≡ after (save x v) (world m)) (sym f.0)
    (like _ _ _ (kept tag_of m.processes p r f.1) (kept stage_of m.processes p r f.2))
turn m (mark q a v) p r f = subst (λ x. world (turned m (mark x a v) p r) ≡ after (mark x a v) (world m)) (sym f.0)
    (like _ _ _ (kept tag_of m.processes p r f.1) (moved stage_of m.processes p r (held a) f.2))
turn m (note q a) p r f = subst (λ x. world (turned m (note x a) p r) ≡ after (note x a) (world m)) (sym f.0)
    (like _ _ _ (kept tag_of m.processes p r f.1) (moved stage_of m.processes p r (armed a) f.2))
turn m (commit q a v) p r f = subst (λ x. world (turned m (commit x a v) p r) ≡ after (commit x a v) (world m)) (sym f.0)
    (like _ _ _ (kept tag_of m.processes p r f.1) (moved stage_of m.processes p r idle f.2))
turn m (fail q a) p r f = subst (λ x. world (turned m (fail x a) p r) ≡ after (fail x a) (world m)) (sym f.0)
    (like _ _ _ (kept tag_of m.processes p r f.1) (moved stage_of m.processes p r idle f.2))
turn m (reset q a v) p r f = subst (λ x. world (turned m (reset x a v) p r) ≡ after (reset x a v) (world m)) (sym f.0)
    (like _ _ _ (kept tag_of m.processes p r f.1) (kept stage_of m.processes p r f.2))

-- a Start changes nothing that is shared
pub begun_same : {V : Type 0} {t : ℕ} {m b : Machine V} {list : List (Given V)} → Begun t m list b → world b ≡ world m
begun_same no_more = refl
begun_same (and_then {m' = m'} x p q r y) = turn m' (look p) p r (refl, (begins_fit y).0, (begins_fit y).1) ∙ begun_same x

pub call_turns : {V : Type 0} {t p : ℕ} {m m' : Machine V} {list : List (Given V)} {e : Event V} {d : Option (Done V)} → Call t p m m' list e d → world m' ≡ after e (world m)
call_turns {p = p} {m = m} (steps list b y r e d l x) = ap world x ∙ turn b e p r (fits l) ∙ ap (after e) (begun_same y)
call_turns {m = m} (pauses x) = ap world x

pub call_maker : {V : Type 0} {t p : ℕ} {m m' : Machine V} {list : List (Given V)} {e : Event V} {d : Option (Done V)} → Call t p m m' list e d → maker e ≡ p
call_maker {p = p} (steps list b y r e d l x) = fits_maker e p (b.processes p) r (fits l)
call_maker (pauses x) = refl
