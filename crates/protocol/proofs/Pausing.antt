-- A run that comes to a pause has its operations in order.
use Rattle.std.proofs.Common.{◌≡◌, ℕ, suc, ◌<◌, Bool, true, false, ◌⊎◌, List, [], ◌∷◌, sym, refl, ap, ◌∙◌, subst, inl, inr, arith}
use mathlib.Core.Option.{some}
use native.Mathlib.Decide.{ℕ_discrete, dec_le}
use Rattle.memory.specs.declared.cell.Cell.TheVariants.{Value}
use Rattle.protocol.specs.Operations.{Request, Answer, Finished}
use Rattle.protocol.specs.Operations.Request.{read, ll, sc, snapshot, kcss}
use Rattle.protocol.specs.Operations.Answer.{values, said}
use Rattle.protocol.specs.Phases.Done.{done}
use Rattle.protocol.specs.Runs.{Run, Paused, finished}
use Rattle.protocol.proofs.Changes.{clash}
use Rattle.protocol.specs.Lists.{◌∈◌}
use Rattle.protocol.specs.Certificates.{Timed, KeepsLink, ItsLl, Shown, Certificate}
use Rattle.protocol.specs.Certified.{Owner, Certified, AtRest}
use Rattle.protocol.specs.Order.{Ordered}
use Rattle.protocol.proofs.Turning.{call_maker}
use Rattle.protocol.proofs.Knowing.{W, Held}
use Rattle.protocol.proofs.Tracing.{history}
use Rattle.protocol.proofs.Ending.{fin, Sc-ends, Ended}
use Rattle.protocol.proofs.Owning.{Owned, owns}
use Rattle.protocol.proofs.Finishing.{sound, complete, apart, over_of}
use Rattle.protocol.proofs.Ordered.{order}

module _ {V : Type 0} (R : Run V) (n : ℕ) (Z : Paused R n) where
  abbrev ended : List (Finished V)
  ended = finished R n

  -- between an SC and its LL no LL or SC of the process takes effect
  latest : (t p a n' f : ℕ) (q : Request V) (z : Answer V) → R.out t ≡ some (done q z f) → f ≡ t → R.who t ≡ p → (H : Held R t p n' a)
      → (o : Finished V) → o ∈ ended → o.process ≡ p → H.e0 < o.effect → o.effect < f → KeepsLink o.request
  latest t p a n' f q z e now by H o m pr h k =
      let d = sound R n o m in
      let x = (over_of R n o m).mine in
      let w : R.who o.last ≡ p = d.1 ∙ pr in
      let past = x.past in
      elim (dec_le (suc o.last) H.l0) [
        | yes i ↦ (let y = H.clear0 o.last (omega arith) i w in clash (cc d.2))
        | no i ↦ elim (ℕ_discrete o.last H.l0) [
          | yes j ↦ (let y : R.out H.l0 ≡ some (done o.request o.answer o.effect) = ap R.out (sym j) ∙ d.2 in let y' : o.effect ≡ H.e0 = cc H.out0 in absurd (omega arith))
          | no j ↦ elim (dec_le (suc o.last) t) [
            | yes l ↦ H.since o.last o.effect o.request o.answer (omega arith) l w d.2
            | no l ↦ elim (ℕ_discrete o.last t) [
              | yes y ↦ (let y' : R.out t ≡ some (done o.request o.answer o.effect) = ap R.out (sym y) ∙ d.2 in let v : o.effect ≡ f = cc in absurd (omega arith))
              | no y ↦ (let y' = x.clear t (omega arith) (omega arith) (by ∙ sym w) in clash (cc))
            ]
          ]
        ]
      ]

  its_ll : (t b f a : ℕ) (u : V) (y : Bool) → t < n → R.out t ≡ some (done (sc a u) (said y) f) → Sc-ends R t (R.who t) b f a u y
      → ItsLl (history R) ended (fin t (R.who t) (sc a u) (said y) f) a
  its_ll t b f a u y below e c =
      let H = c.held in
      let h1 = H.order in
      let h2 = H.early in
      let now = c.now in
      record {
        linking = fin H.l0 (R.who t) (ll a) (values (H.x ∷ [])) H.e0;
        value = H.x;
        is_listed = subst (λ p. fin H.l0 p (ll a) (values (H.x ∷ [])) H.e0 ∈ ended) H.who0
            (complete R n H.l0 (ll a) (values (H.x ∷ [])) H.e0 (omega arith) H.out0);
        same_process = refl;
        asked = refl;
        before = omega arith;
        marked = H.marks;
        same_tag = H.tag0 ∙ sym c.tag ∙ ap (λ z. (W R z).tag (R.who t)) (sym now);
        latest = latest t (R.who t) a c.n f (sc a u) (said y) e now refl H;
      }

  shown : (t b f : ℕ) (q : Request V) (z : Answer V) → t < n → R.out t ≡ some (done q z f) → Ended R t (R.who t) b f q z
      → Shown (history R) ended (fin t (R.who t) q z f) q z
  shown t b f (read a) (values l) h e c = c
  shown t b f (read a) (said y) h e c = absurd c
  shown t b f (ll a) (values l) h e c = c.0
  shown t b f (ll a) (said y) h e c = absurd c
  shown t b f (sc a u) (values l) h e c = absurd c
  shown t b f (sc a u) (said y) h e c = record { at_once = sym c.now; its_cas = ap R.event c.now ∙ c.its_cas; its_ll = its_ll t b f a u y h e c }
  shown t b f (snapshot ls) (values l) h e c = c
  shown t b f (snapshot ls) (said y) h e c = absurd c
  shown t b f (kcss x o u) (values l) h e c = absurd c
  shown t b f (kcss x o u) (said true) h e c = c
  shown t b f (kcss x o u) (said false) h e c = c

  timed : (o : Finished V) → o ∈ ended → Timed (history R) ended o
  timed o m =
      let d = sound R n o m in
      let x = (over_of R n o m).mine in
      record {
        in_time = x.past;
        own_step = call_maker (R.call o.effect) ∙ x.by.0 ∙ d.1;
        undisturbed = λ other m' p h l. let d' = sound R n other m' in let k = x.clear other.last h l (d'.1 ∙ p ∙ sym d.1) in clash (cc d'.2);
      }

  certificate : (o : Finished V) → o ∈ ended → Certificate (history R) ended o
  certificate o m =
      let d = sound R n o m in
      let x = over_of R n o m in
      record {
        timed = timed o m;
        shown = subst (λ p. Shown (history R) ended (fin o.last p o.request o.answer o.effect) o.request o.answer) d.1
            (shown o.last x.b o.effect o.request o.answer d.0 d.2 x.ended);
      }

  certified : Certified (history R) ended
  certified = record { each = certificate; apart = apart R n; owned = λ t p a v e. go t p a v (owns R t p a v e) }
    where
      below : (t : ℕ) (q : Request V) (z : Answer V) (f : ℕ) → R.out t ≡ some (done q z f) → t < n
      below t q z f e = elim (dec_le n t) [ yes h ↦ (let k = (Z t h).1 in clash (cc)) | no h ↦ omega arith ]

      go : (t p a : ℕ) (v : V) → ((W R t).saved p ≡ Value v) ⊎ Owned R p a v (R.who t) (R.out t) → ((W R t).saved p ≡ Value v) ⊎ Owner ended t p a v
      go t p a v (inl x) = inl x
      go t p a v (inr d) =
          inr (record {
            done = fin t (R.who t) d.0 d.1 d.2;
            is_listed = complete R n t d.0 d.1 d.2 (below t d.0 d.1 d.2 d.4) d.4;
            same_process = sym d.3;
            sets = d.5;
            ends_there = refl;
          })

  at_rest : AtRest (history R) ended n
  at_rest = record { no_commit = λ t p a v h e. let k = (Z t h).0 in clash (cc); all_ended = λ o m. (sound R n o m).0 }

  -- the operations in order
  pub ordered : Ordered (history R) ended n
  ordered = order (history R) ended n certified at_rest
