-- The list of finished operations: what is in it, and what each rests on.
use Rattle.std.proofs.Common.{◌≡◌, ℕ, zero, suc, ◌<◌, ◌≤◌, List, sym, refl, ap, ◌∙◌, subst, inl, inr, arith}
use mathlib.Core.Option.{Option, some, none}
use native.Mathlib.Decide.{ℕ_discrete}
use Rattle.protocol.specs.Events.{Event}
use Rattle.protocol.specs.Operations.{Request, Answer, Finished}
use Rattle.protocol.specs.Operations.Request.{read, ll, sc, snapshot, kcss}
use Rattle.protocol.specs.Operations.Answer.{values, said}
use Rattle.protocol.specs.Phases.{Process, Done, asked}
use Rattle.protocol.specs.Phases.Done.{done}
use Rattle.protocol.specs.Runs.{Given, WasGiven, Call, Run, IsLine, with_ended, finished}
use Rattle.protocol.specs.Runs.Call.{steps, pauses}
use Rattle.protocol.proofs.Changes.{clash}
use Rattle.protocol.specs.Lists.{◌∈◌, Apart}
use Rattle.protocol.specs.Steps.{Keeps}
use Rattle.protocol.proofs.Asking.{keeps}
use Rattle.protocol.proofs.Knowing.{Clear, Quiet}
use Rattle.protocol.proofs.Tracing.{begun_knows, its_line, its_tag, its_stage, knows}
use Rattle.protocol.proofs.Ending.{since_of, fin, Ended, Mine, Ends, line_ends}
use Rattle.protocol.proofs.Giving.{Runs, After, after_starts, was_asked}

module _ {V : Type 0} (R : Run V) where
  -- all about an operation that ends at t
  pub record Over (t : ℕ) (q : Request V) (z : Answer V) (f : ℕ) : Type 0 where
    pub b : ℕ
    pub mine : Mine R t (R.who t) b f
    pub ended : Ended R t (R.who t) b f q z
    pub asks : WasGiven (R.who t) q (R.starts b)
    pub asks_once : (c : ℕ) (q' : Request V) → b ≤ c → c < suc t → WasGiven (R.who t) q' (R.starts c) → (c ≡ b) × (q' ≡ q)
    pub clear : Clear R (R.who t) b t

  abbrev Whole : ℕ → Option (Done V) → Type 0
  Whole t none = Unit {0}
  Whole t (some (done q z f)) = Over t q z f

  gather : (t : ℕ) (r r' : Process V) (d : Option (Done V)) → Ends R t (R.who t) (since_of r) d → Keeps r r' d → After R t (R.who t) r → Whole t d
  gather t r r' none e k i = tt
  gather t r r' (some (done q z f)) e k i = go (asked r) k.0 i
    where
      go : (x : Option (Request V)) → x ≡ some q → Runs R (suc t) t (R.who t) (since_of r) x → Over t q z f
      go none k i = clash (cc)
      go (some q') k i =
          let y : q' ≡ q = cc in
          record {
            b = since_of r;
            mine = e.0;
            ended = e.1;
            asks = subst (λ x. WasGiven (R.who t) x (R.starts (since_of r))) y i.0;
            asks_once = λ c x h l w. (let z = i.1 c x h l w in (z.0, z.1 ∙ y));
            clear = i.2;
          }

  call_whole : (t : ℕ) {list : List (Given V)} {e : Event V} {d : Option (Done V)} (c : Call t (R.who t) (R.at t) (R.at (suc t)) list e d) → (IsLine c → IsLine (R.call t)) → R.event t ≡ e → R.starts t ≡ list → Whole t d
  call_whole t (steps list b y r e d l x) is ev s =
      gather t (b.processes (R.who t)) r d
      (line_ends R t (R.who t) (its_line R t (R.who t) y l) ev (refl, is tt) (its_tag R t (R.who t) y) (its_stage R t (R.who t) y) (begun_knows R t y (knows R t) (R.who t)))
      (keeps l) (after_starts R t s y (was_asked R t) (R.who t))
  call_whole t (pauses x) is ev s = tt

  pub finishes : (t : ℕ) (q : Request V) (z : Answer V) (f : ℕ) → R.out t ≡ some (done q z f) → Over t q z f
  finishes t q z f e = subst (Whole t) e (call_whole t (R.call t) (λ i. i) refl refl)

  -- the operation ended before n, as told
  abbrev pub Found : ℕ → Finished V → Type 0
  Found n o = (o.last < n) × (R.who o.last ≡ o.process) × (R.out o.last ≡ some (done o.request o.answer o.effect))

  pub sound : (n : ℕ) (o : Finished V) → o ∈ finished R n → Found n o
  sound zero o m = absurd m
  sound (suc t) o m = go (R.out t) refl (λ k. let d = sound t o k in ((let h = d.0 in omega arith), d.1, d.2)) m
    where
      go : (x : Option (Done V)) → R.out t ≡ x → (o ∈ finished R t → Found (suc t) o) → o ∈ with_ended (R.who t) t x (finished R t) → Found (suc t) o
      go none k ih m = ih m
      go (some (done q z f)) k ih (inl e) = subst (Found (suc t)) (sym e) (omega arith, refl, k)
      go (some (done q z f)) k ih (inr m) = ih m

  pub complete : (n c : ℕ) (q : Request V) (z : Answer V) (f : ℕ) → c < n → R.out c ≡ some (done q z f) → fin c (R.who c) q z f ∈ finished R n
  complete zero c q z f h e = absurd (omega arith)
  complete (suc t) c q z f h e =
      elim (ℕ_discrete c t) [
        | yes i ↦ subst (λ x. fin c (R.who c) q z f ∈ with_ended (R.who t) t x (finished R t)) (sym (ap R.out (sym i) ∙ e)) (inl (ap (λ x. fin x (R.who x) q z f) i))
        | no i ↦ past (R.out t) (complete t c q z f (omega arith) e)
      ]
    where
      past : (x : Option (Done V)) → fin c (R.who c) q z f ∈ finished R t → fin c (R.who c) q z f ∈ with_ended (R.who t) t x (finished R t)
      past none m = m
      past (some (done q' z' f')) m = inr m

  pub apart : (n : ℕ) → Apart (finished R n)
  apart zero = tt
  apart (suc t) = go (R.out t) (apart t)
    where
      go : (x : Option (Done V)) → Apart (finished R t) → Apart (with_ended (R.who t) t x (finished R t))
      go none a = a
      go (some (done q z f)) a = ((λ o m e. let h = (sound t o m).0 in absurd (omega arith)), a)

  pub over_of : (n : ℕ) (o : Finished V) → o ∈ finished R n → Over o.last o.request o.answer o.effect
  over_of n o m = finishes o.last o.request o.answer o.effect (sound n o m).2

  -- no reset of its own process comes while an LL ends, or while an SC is under way
  pub ll_quiet : (t p b f a : ℕ) (q : Request V) (z : Answer V) → q ≡ ll a → Ended R t p b f q z → Quiet R p f (suc t)
  ll_quiet t p b f a (read c) z e i = clash (cc)
  ll_quiet t p b f a (ll c) (values l) e i = i.1
  ll_quiet t p b f a (ll c) (said y) e i = absurd i
  ll_quiet t p b f a (sc c u) z e i = clash (cc)
  ll_quiet t p b f a (snapshot l) z e i = clash (cc)
  ll_quiet t p b f a (kcss x o u) z e i = clash (cc)

  pub sc_quiet : (t p b f a : ℕ) (v : V) (q : Request V) (z : Answer V) → q ≡ sc a v → Ended R t p b f q z → Quiet R p b t
  sc_quiet t p b f a v (read c) z e i = clash (cc)
  sc_quiet t p b f a v (ll c) z e i = clash (cc)
  sc_quiet t p b f a v (sc c u) (values l) e i = absurd i
  sc_quiet t p b f a v (sc c u) (said y) e i = i.quiet
  sc_quiet t p b f a v (snapshot l) z e i = clash (cc)
  sc_quiet t p b f a v (kcss x o u) z e i = clash (cc)
