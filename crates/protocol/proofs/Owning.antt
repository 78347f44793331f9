-- Every commit belongs to a yes that ends there, or puts back the saved value.
use Rattle.std.proofs.Common.{◌≡◌, ℕ, suc, ◌⊎◌, List, refl, subst, inl, inr}
use mathlib.Core.Option.{Option, some}
use Rattle.memory.specs.declared.cell.Cell.TheVariants.{Value}
use Rattle.protocol.specs.Events.{Event}
use Rattle.protocol.specs.Events.Event.{look, begin, save, mark, note, commit, fail, reset}
use Rattle.protocol.specs.Operations.{Request, Answer}
use Rattle.protocol.specs.Phases.{ReadPhase, Process, Done}
use Rattle.protocol.specs.Phases.Done.{done}
use Rattle.protocol.specs.Lines.{ReadTurn, ReadLine, Line}
use Rattle.protocol.specs.Lines.ReadLine.{line_13_value, line_13_id, line_1_value, line_1_id, line_3a, line_3b_yes, line_3b_no}
use Rattle.protocol.specs.Lines.Line.{read_on, read_got, attempt_value, attempt_id, again_value, again_id, link_on, link_got, line_7, line_8_yes, line_8_no}
use Rattle.protocol.specs.Lines.Line.{line_9_ll, line_9_one, line_9_more, sc_yes, sc_no, s6_on, s6_end, c1_on, c1_got, c1_end, c2_on, c2_got, c2_end, s9_on}
use Rattle.protocol.specs.Lines.Line.{s9_again, s9_solo, s9_inside, kcss_one, kcss_yes, kcss_retry, kcss_first, kcss_first_gone, kcss_other, kcss_other_gone}
use Rattle.protocol.specs.Runs.{Given, Call, Run}
use Rattle.protocol.specs.Runs.Call.{steps, pauses}
use Rattle.protocol.specs.Replay.{change}
use Rattle.protocol.specs.Replay.Change.{set}
use Rattle.protocol.proofs.Knowing.{W, PInv}
use Rattle.protocol.proofs.Tracing.{begun_knows, its_line, knows}

module _ {V : Type 0} (R : Run V) where
  -- the commit ends a yes of p that sets its location
  abbrev pub Owned : ℕ → ℕ → V → ℕ → Option (Done V) → Type 0
  Owned q a v p d = (rq : Request V) × (z : Answer V) × (f : ℕ) × (q ≡ p) × (d ≡ some (done rq z f)) × (change rq z ≡ set a v)

  abbrev Owns : Event V → ℕ → ℕ → Option (Done V) → Type 0
  Owns (look q) t p d = Unit {0}
  Owns (begin q) t p d = Unit {0}
  Owns (save q v) t p d = Unit {0}
  Owns (mark q a v) t p d = Unit {0}
  Owns (note q a) t p d = Unit {0}
  Owns (commit q a v) t p d = ((W R t).saved q ≡ Value v) ⊎ Owned q a v p d
  Owns (fail q a) t p d = Unit {0}
  Owns (reset q a v) t p d = Unit {0}

  sub_owns : (t p : ℕ) (d : Option (Done V)) {q a : ℕ} {s : ReadPhase V} {e : Event V} {o : ReadTurn V} → ReadLine (W R t) q a s e o → Owns e t p d
  sub_owns t p d (line_13_value v x) = tt
  sub_owns t p d (line_13_id k x) = tt
  sub_owns t p d (line_1_value v x) = tt
  sub_owns t p d (line_1_id k x) = tt
  sub_owns t p d (line_3a k v x) = tt
  sub_owns t p d (line_3b_yes k v x) = tt
  sub_owns t p d (line_3b_no k v x) = tt

  line_owns : (t p : ℕ) {r r' : Process V} {e : Event V} {d : Option (Done V)} → Line t p (W R t) r e r' d → PInv R t p r → Owns e t p d
  line_owns t p {d = d} (read_on x) i = sub_owns t p d x
  line_owns t p {d = d} (read_got x) i = sub_owns t p d x
  line_owns t p (attempt_value x) i = tt
  line_owns t p (attempt_id k x) i = tt
  line_owns t p (again_value x) i = tt
  line_owns t p (again_id k x) i = tt
  line_owns t p {d = d} (link_on x) i = sub_owns t p d x
  line_owns t p {d = d} (link_got x) i = sub_owns t p d x
  line_owns t p line_7 i = tt
  line_owns t p (line_8_yes x) i = tt
  line_owns t p (line_8_no x) i = tt
  line_owns t p line_9_ll i = tt
  line_owns t p line_9_one i = tt
  line_owns t p line_9_more i = tt
  line_owns t p (sc_yes x) i = inr (_, _, _, refl, refl, refl)
  line_owns t p (sc_no x) i = tt
  line_owns t p (s6_on x) i = tt
  line_owns t p (s6_end x) i = tt
  line_owns t p {d = d} (c1_on x) i = sub_owns t p d x
  line_owns t p {d = d} (c1_got x y) i = sub_owns t p d x
  line_owns t p {d = d} (c1_end x y) i = sub_owns t p d x
  line_owns t p {d = d} (c2_on x) i = sub_owns t p d x
  line_owns t p {d = d} (c2_got x y) i = sub_owns t p d x
  line_owns t p {d = d} (c2_end x y) i = sub_owns t p d x
  line_owns t p (s9_on x) i = tt
  line_owns t p (s9_again x y z) i = tt
  line_owns t p (s9_solo x y z) i = tt
  line_owns t p (s9_inside x y z) i = tt
  line_owns t p (kcss_one x y) i = inr (_, _, _, refl, refl, refl)
  line_owns t p (kcss_yes x z y) i = inr (_, _, _, refl, refl, refl)
  line_owns t p (kcss_retry x z y) i = tt
  line_owns t p (kcss_first x y) i = inl i.1.0.keeps
  line_owns t p (kcss_first_gone x y) i = tt
  line_owns t p (kcss_other x z u y) i = inl i.1.0.keeps
  line_owns t p (kcss_other_gone x z u y) i = tt

  call_owns : (t : ℕ) {list : List (Given V)} {e : Event V} {d : Option (Done V)} → Call t (R.who t) (R.at t) (R.at (suc t)) list e d → Owns e t (R.who t) d
  call_owns t (steps list b y r e d l x) = line_owns t (R.who t) (its_line R t (R.who t) y l) (begun_knows R t y (knows R t) (R.who t))
  call_owns t (pauses x) = tt

  pub owns : (t q a : ℕ) (v : V) → R.event t ≡ commit q a v → ((W R t).saved q ≡ Value v) ⊎ Owned q a v (R.who t) (R.out t)
  owns t q a v e = subst (λ x. Owns x t (R.who t) (R.out t)) e (call_owns t (R.call t))
