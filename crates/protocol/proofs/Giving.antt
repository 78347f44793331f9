-- What a process was given: the operation that it runs has the request of its last Start, since which it ended nothing.
use Rattle.std.proofs.Common.{◌≡◌, ℕ, zero, suc, ◌<◌, ◌≤◌, ◌⊎◌, List, ◌∷◌, sym, refl, ap, ◌∙◌, subst, inl, inr, arith}
use mathlib.Core.Option.{Option, some, none}
use native.Mathlib.Decide.{ℕ_discrete}
use Rattle.protocol.specs.World.{World}
use Rattle.protocol.specs.Events.{Event}
use Rattle.protocol.specs.Operations.{Request}
use Rattle.protocol.specs.Phases.{Process, Done, asked}
use Rattle.protocol.specs.Phases.Done.{done}
use Rattle.protocol.specs.Lines.{Line}
use Rattle.protocol.specs.Lines.Line.{read_on, read_got, attempt_value, attempt_id, again_value, again_id, link_on, link_got, line_7, line_8_yes, line_8_no}
use Rattle.protocol.specs.Lines.Line.{line_9_ll, line_9_one, line_9_more, sc_yes, sc_no, s6_on, s6_end, c1_on, c1_got, c1_end, c2_on, c2_got, c2_end, s9_on}
use Rattle.protocol.specs.Lines.Line.{s9_again, s9_solo, s9_inside, kcss_one, kcss_yes, kcss_retry, kcss_first, kcss_first_gone, kcss_other, kcss_other_gone}
use Rattle.protocol.specs.Runs.{Begins, Machine, Given, WasGiven, Begun, Call, Run}
use Rattle.protocol.specs.Runs.Begins.{begins_read, begins_ll, begins_sc, begins_snapshot, begins_kcss}
use Rattle.protocol.specs.Runs.Given.{given}
use Rattle.protocol.specs.Runs.Begun.{no_more, and_then}
use Rattle.protocol.specs.Runs.Call.{steps, pauses}
use Rattle.protocol.specs.Steps.{Keeps}
use Rattle.protocol.proofs.Changes.{clash}
use Rattle.protocol.proofs.Starting.{Rests, rested}
use Rattle.protocol.proofs.Opening.{asks}
use Rattle.protocol.proofs.Asking.{keeps}
use Rattle.protocol.proofs.Knowing.{Clear, clear_still, Goes}
use Rattle.protocol.proofs.Tracing.{at_move}
use Rattle.protocol.proofs.Ending.{since_of}

since_same : {V : Type 0} {t p : ℕ} {w : World V} {r r' : Process V} {e : Event V} {d : Option (Done V)} → Line t p w r e r' d → since_of r' ≡ since_of r
since_same (read_on x) = refl
since_same (read_got x) = refl
since_same (attempt_value x) = refl
since_same (attempt_id k x) = refl
since_same (again_value x) = refl
since_same (again_id k x) = refl
since_same (link_on x) = refl
since_same (link_got x) = refl
since_same line_7 = refl
since_same (line_8_yes x) = refl
since_same (line_8_no x) = refl
since_same line_9_ll = refl
since_same line_9_one = refl
since_same line_9_more = refl
since_same (sc_yes x) = refl
since_same (sc_no x) = refl
since_same (s6_on x) = refl
since_same (s6_end x) = refl
since_same (c1_on x) = refl
since_same (c1_got x y) = refl
since_same (c1_end x y) = refl
since_same (c2_on x) = refl
since_same (c2_got x y) = refl
since_same (c2_end x y) = refl
since_same (s9_on x) = refl
since_same (s9_again x y z) = refl
since_same (s9_solo x y z) = refl
since_same (s9_inside x y z) = refl
since_same (kcss_one x y) = refl
since_same (kcss_yes x y z) = refl
since_same (kcss_retry x y z) = refl
since_same (kcss_first x y) = refl
since_same (kcss_first_gone x y) = refl
since_same (kcss_other x y z u) = refl
since_same (kcss_other_gone x y z u) = refl

module _ {V : Type 0} (R : Run V) where
  -- of an operation given at b: its request was given then, and nothing else from b on before s; p ended nothing before t
  abbrev pub Runs : ℕ → ℕ → ℕ → ℕ → Option (Request V) → Type 0
  Runs s t p b none = Unit {0}
  Runs s t p b (some q) = WasGiven p q (R.starts b) × ((c : ℕ) (q' : Request V) → b ≤ c → c < s → WasGiven p q' (R.starts c) → (c ≡ b) × (q' ≡ q)) × Clear R p b t

  -- before the Starts of step t
  abbrev Before : ℕ → ℕ → Process V → Type 0
  Before t p r = Runs t t p (since_of r) (asked r)

  -- and after them
  abbrev pub After : ℕ → ℕ → Process V → Type 0
  After t p r = Runs (suc t) t p (since_of r) (asked r)

  -- given nothing in the list, or given its request there and nothing else
  abbrev Nothing : ℕ → List (Given V) → Type 0
  Nothing p list = (q : Request V) → WasGiven p q list → ⊥

  abbrev GivenHere : ℕ → List (Given V) → ℕ → ℕ → Option (Request V) → Type 0
  GivenHere t list p b x = (q : Request V) × (x ≡ some q) × (b ≡ t) × WasGiven p q list × ((q' : Request V) → WasGiven p q' list → q' ≡ q)

  abbrev Dealt : ℕ → List (Given V) → ℕ → Process V → Type 0
  Dealt t list p r = (Nothing p list × Before t p r) ⊎ GivenHere t list p (since_of r) (asked r)

  -- a process that rests was given nothing before
  nothing_yet : (t p : ℕ) (list : List (Given V)) (r : Process V) → Rests r → Dealt t list p r → Nothing p list
  nothing_yet t p list r z (inl i) = i.0
  nothing_yet t p list r z (inr i) = let x = ap asked z.3 in let y = i.1 in clash (cc)

  only_this : (p : ℕ) (list : List (Given V)) (q : Request V) → Nothing p list → (q' : Request V) → WasGiven p q' (given p q ∷ list) → q' ≡ q
  only_this p list q h q' (inl e) = cc
  only_this p list q h q' (inr w) = absurd (h q' w)

  began : (t p : ℕ) (list : List (Given V)) {q : Request V} {r r' : Process V} → Begins t r q r' → Dealt t list p r → Dealt t (given p q ∷ list) p r'
  began t p list {q = q} {r = r} {r' = r'} s i = inr (q, asks s, since s, inl refl, only_this p list q (nothing_yet t p list r (rested s) i))
    where
      since : {q : Request V} {r r' : Process V} → Begins t r q r' → since_of r' ≡ t
      since (begins_read a) = refl
      since (begins_ll a) = refl
      since (begins_sc a u) = refl
      since (begins_snapshot rows k) = refl
      since (begins_kcss a x u rows k) = refl

  also : (t p p' : ℕ) (q' : Request V) (list : List (Given V)) (r : Process V) → (p ≡ p' → ⊥) → Dealt t list p r → Dealt t (given p' q' ∷ list) p r
  also t p p' q' list r h i = elim i [ inl x ↦ inl (λ q w. x.0 q (in_list q w), x.1) | inr x ↦ inr (x.0, x.1, x.2, inr x.3, λ q w. x.4 q (in_list q w)) ]
    where
      in_list : (q : Request V) → (given p' q' ≡ given p q) ⊎ WasGiven p q list → WasGiven p q list
      in_list q (inl e) = absurd (h (cc))
      in_list q (inr w) = w

  dealt : (t : ℕ) {m b : Machine V} {list : List (Given V)} → Begun t m list b → ((p : ℕ) → Before t p (m.processes p)) → (p : ℕ) → Dealt t list p (b.processes p)
  dealt t no_more ih p = inl ((λ q w. w), ih p)
  dealt t (and_then {m' = m'} {list = list} x p' q' r y) ih p =
      at_move (Dealt t (given p' q' ∷ list)) m'.processes p' r (began t p' list y (dealt t x ih p')) (λ z h. also t z p' q' list (m'.processes z) h (dealt t x ih z)) p

  -- once the Starts of step t are told
  told : (t p b : ℕ) (list : List (Given V)) → R.starts t ≡ list → (x : Option (Request V))
      → (Nothing p list × Runs t t p b x) ⊎ GivenHere t list p b x → Runs (suc t) t p b x
  told t p b list e none i = tt
  told t p b list e (some q) (inl i) = (
    i.1.0,
    (λ c q' h l w. elim (ℕ_discrete c t) [
      | yes z ↦ absurd (i.0 q' (subst (WasGiven p q') (ap R.starts z ∙ e) w))
      | no z ↦ i.1.1 c q' h (omega arith) w
    ]),
    i.1.2,
  )
  told t p b list e (some q) (inr i) =
      let z : i.0 ≡ q = cc i.1 in
      let y = i.2 in (
        subst (λ x. WasGiven p x (R.starts b)) z (subst (WasGiven p i.0) (sym (ap R.starts y ∙ e)) i.3),
        (λ c q' h l w. (let j : c ≡ t = omega arith in (omega arith, i.4 q' (subst (WasGiven p q') (ap R.starts j ∙ e) w) ∙ z))),
        (λ c h l w. absurd (omega arith)),
      )

  pub after_starts : (t : ℕ) {m b : Machine V} {list : List (Given V)} → R.starts t ≡ list → Begun t m list b → ((p : ℕ) → Before t p (m.processes p)) → (p : ℕ) → After t p (b.processes p)
  after_starts t {b = b} {list = list} e y ih p = told t p (since_of (b.processes p)) list e (asked (b.processes p)) (dealt t y ih p)

  -- a step that does not end p's operation
  goes_on : (t p b : ℕ) (x : Option (Request V)) → Goes R t p → Runs (suc t) t p b x → Runs (suc t) (suc t) p b x
  goes_on t p b none g i = tt
  goes_on t p b (some q) g i = (i.0, i.1, clear_still R t p b g i.2)

  by_line : (t p : ℕ) (r r' : Process V) (d : Option (Done V)) → R.out t ≡ d → since_of r' ≡ since_of r → Keeps r r' d → After t p r → Before (suc t) p r'
  by_line t p r r' none o e k i =
      subst (λ b. Runs (suc t) (suc t) p b (asked r')) (sym e) (subst (Runs (suc t) (suc t) p (since_of r)) (sym k) (goes_on t p (since_of r) (asked r) (λ _. o) i))
  by_line t p r r' (some (done q z f)) o e k i = subst (Runs (suc t) (suc t) p (since_of r')) (sym k.1) tt

  step_gives : (t : ℕ) {list : List (Given V)} {e : Event V} {d : Option (Done V)} → Call t (R.who t) (R.at t) (R.at (suc t)) list e d → R.starts t ≡ list → R.out t ≡ d
      → ((p : ℕ) → Before t p ((R.at t).processes p)) → (p : ℕ) → Before (suc t) p ((R.at (suc t)).processes p)
  step_gives t (steps list b y r e d l x) s o ih p =
      subst (Before (suc t) p) (sym (ap (λ m. m.processes p) x))
      (at_move (Before (suc t)) b.processes (R.who t) r
      (by_line t (R.who t) (b.processes (R.who t)) r d o (since_same l) (keeps l) (after_starts t s y ih (R.who t)))
      (λ q h. goes_on t q (since_of (b.processes q)) (asked (b.processes q)) (λ w. absurd (h (sym w))) (after_starts t s y ih q)) p)
  step_gives t (pauses x) s o ih p =
      subst (Before (suc t) p) (sym (ap (λ m. m.processes p) x))
      (goes_on t p (since_of ((R.at t).processes p)) (asked ((R.at t).processes p)) (λ w. o) (after_starts t {m = R.at t} {b = R.at t} s no_more ih p))

  pub was_asked : (t p : ℕ) → Before t p ((R.at t).processes p)
  was_asked zero p = subst (Before 0 p) (sym (R.rested p)) tt
  was_asked (suc t) p = step_gives t (R.call t) refl refl (was_asked t) p

  -- what a process is asked after Starts was given to it there or at an earlier step
  pub was_given : (t : ℕ) {m : Machine V} {list : List (Given V)} → Begun t (R.at t) list m → (p : ℕ) (q : Request V) → asked (m.processes p) ≡ some q
      → ((b : ℕ) × WasGiven p q (R.starts b)) ⊎ WasGiven p q list
  was_given t {m = m} {list = list} u p q e = go (dealt t u (was_asked t) p)
    where
      before : (b : ℕ) (x : Option (Request V)) → x ≡ some q → Runs t t p b x → (b : ℕ) × WasGiven p q (R.starts b)
      before b none e i = clash (cc)
      before b (some y) e i = let z : y ≡ q = cc in (b, subst (λ x. WasGiven p x (R.starts b)) z i.0)

      go : Dealt t list p (m.processes p) → ((b : ℕ) × WasGiven p q (R.starts b)) ⊎ WasGiven p q list
      go (inl i) = inl (before (since_of (m.processes p)) (asked (m.processes p)) e i.1)
      go (inr i) = let x = i.1 in let z : i.0 ≡ q = cc in inr (subst (λ x. WasGiven p x list) z i.3)
