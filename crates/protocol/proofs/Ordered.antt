-- The order by effect is lawful.
use Rattle.std.proofs.Common.{◌≡◌, ℕ, zero, suc, ◌+◌, ◌<◌, ◌≤◌, true, false, ◌⊎◌, List, [], ◌∷◌, map, sym, refl, ap, ◌∙◌, subst, inl, inr, arith}
use mathlib.Core.Option.{Option, some, none}
use native.Mathlib.Decide.{ℕ_discrete}
use Rattle.protocol.specs.Events.Event.{mark}
use Rattle.protocol.specs.History.{History}
use Rattle.protocol.specs.Operations.{Expected, Request, Answer, Finished}
use Rattle.protocol.specs.Operations.Request.{read, ll, sc, snapshot, kcss}
use Rattle.protocol.specs.Operations.Answer.{values, said}
use Rattle.protocol.specs.Lists.{◌∈◌, by_effect, Ascending}
use Rattle.protocol.specs.Store.{AsExpected, SomeDiffers, Allows}
use Rattle.protocol.specs.Replay.{change, Replays}
use Rattle.protocol.specs.Replay.Replays.{at_end, then_on}
use Rattle.protocol.specs.Seen.{AllSeen, SeenExpected, SeenDiffering}
use Rattle.protocol.specs.Certificates.{Shown, ScShown}
use Rattle.protocol.specs.Certified.{Certified}
use Rattle.protocol.specs.Order.{MarkWasReset, OrderLaw}
use Rattle.protocol.proofs.Views.{mark_can}
use Rattle.protocol.proofs.Attempts.{was_reset}
use Rattle.protocol.proofs.Listing.{order_all, order_only}
use Rattle.protocol.proofs.Spans.{in_time, by_its_effect, ascending}
use Rattle.protocol.proofs.Settled.{feed, log, S, logged, unlogged, told, seen_told, saved_told, settles}
use Rattle.protocol.proofs.Links.{linked}

module _ {V : Type 0} (H : History V) (ended : List (Finished V)) (C : Certified H ended) where
  all_told : (t : ℕ) (l : List ℕ) (x : List V) → AllSeen H t l x → x ≡ map (S H ended C t).value l
  all_told t [] [] c = refl
  all_told t [] (v ∷ x) c = absurd c
  all_told t (a ∷ l) [] c = absurd c
  all_told t (a ∷ l) (v ∷ x) c = let e = seen_told H ended C t a v c.0 in let f = all_told t l x c.1 in cc

  expected_told : (t : ℕ) (l : List (Expected V)) → SeenExpected H t l → AsExpected (S H ended C t) l
  expected_told t [] c = tt
  expected_told t (x ∷ l) c = (seen_told H ended C t x.location x.value c.0, expected_told t l c.1)

  differing_told : (t : ℕ) (l : List (Expected V)) → SeenDiffering H t l → SomeDiffers (S H ended C t) l
  differing_told t [] c = c
  differing_told t (x ∷ l) (inl d) = inl (λ m. d.2 (sym (seen_told H ended C t x.location d.0 d.1) ∙ m))
  differing_told t (x ∷ l) (inr c) = inr (differing_told t l c)

  marked_told : (t p a : ℕ) (v : V) → H.event t ≡ mark p a v → (S H ended C t).value a ≡ v
  marked_told t p a v e = told H ended C t a v (inl (mark_can H t p a v e).1)

  -- the store allows each operation at its effect
  allowed_as : (o : Finished V) → o ∈ ended → (r : Request V) (s : Answer V) → change o.request o.answer ≡ change r s
      → Shown H ended o r s → Allows (S H ended C o.effect) o.process r s
  allowed_as o m (read a) (values l) e c = c.1 ∙ ap (λ x. x ∷ []) (sym (told H ended C o.effect a c.0 (inl c.2)))
  allowed_as o m (read a) (said y) e c = c
  allowed_as o m (ll a) (values l) e c = c.1 ∙ ap (λ x. x ∷ []) (sym (marked_told o.effect o.process a c.0 c.2))
  allowed_as o m (ll a) (said y) e c = c
  allowed_as o m (sc a v) (values l) e c = c
  allowed_as o m (sc a v) (said true) e c = linked H ended C o a v (m, e) c
  allowed_as o m (sc a v) (said false) e c = tt
  allowed_as o m (snapshot l) (values x) e c = all_told o.effect l x c
  allowed_as o m (snapshot l) (said y) e c = c
  allowed_as o m (kcss f l v) (values x) e c = c
  allowed_as o m (kcss f l v) (said true) e c = (saved_told H ended C o f.location v f.value (m, e) c.expected, expected_told o.effect l c.seen)
  allowed_as o m (kcss f l v) (said false) e (inl d) = inl (λ k. d.2 (sym (marked_told o.effect o.process f.location d.0 d.1) ∙ k))
  allowed_as o m (kcss f l v) (said false) e (inr d) = inr (differing_told o.effect l d)

  allowed : (o : Finished V) → o ∈ ended → Allows (S H ended C o.effect) o.process o.request o.answer
  allowed o m = allowed_as o m o.request o.answer refl (C.each o m).shown

  -- the list has the operations that take effect from t on
  record Rest (t : ℕ) (l : List (Finished V)) : Type 0 where
    ascends : Ascending l
    all : (o : Finished V) → o ∈ ended → t ≤ o.effect → o ∈ l
    only : (o : Finished V) → o ∈ l → (o ∈ ended) × (t ≤ o.effect)

  module _ (n : ℕ) (before : (o : Finished V) → o ∈ ended → o.last < n) where
    replays_from : (k t : ℕ) → t + k ≡ n → (l : List (Finished V)) → Rest t l → Replays (S H ended C t) l (S H ended C n)
    replays_from zero t h [] r = let e : t ≡ n = omega arith in subst (λ x. Replays (S H ended C t) [] (S H ended C x)) e (at_end (S H ended C t))
    replays_from zero t h (o ∷ l) r =
        let d = r.only o (inl refl) in
        let i = before o d.0 in
        let j = in_time H ended C o d.0 in
        let g = d.1 in
        absurd (omega arith)
    replays_from (suc k) t h l r = go (log H ended C t) refl l r (replays_from k (suc t) (omega arith))
      where
        Later : Type 0
        Later = (l : List (Finished V)) → Rest (suc t) l → Replays (S H ended C (suc t)) l (S H ended C n)

        go : (x : Option (Finished V)) → log H ended C t ≡ x → (l : List (Finished V)) → Rest t l → Later → Replays (S H ended C t) l (S H ended C n)
        go none e l r ih = subst (λ x. Replays (feed x (S H ended C t)) l (S H ended C n)) e (ih l (record { ascends = r.ascends; all = λ o m i. r.all o m (omega arith); only = still }))
          where
            still : (o : Finished V) → o ∈ l → (o ∈ ended) × (suc t ≤ o.effect)
            still o m =
                let d = r.only o m in
                let i = d.1 in
                let j = unlogged H ended C t e o d.0 in
                (d.0, elim (ℕ_discrete o.effect t) [ yes q ↦ absurd (j q) | no q ↦ omega arith ])
        go (some o) e [] r ih = let d = logged H ended C t o e in let i = d.1 in absurd (r.all o d.0 (omega arith))
        go (some o) e (x ∷ l) r ih = then_on (S H ended C t) x l (S H ended C n) (subst (λ y. Allows (S H ended C y) x.process x.request x.answer) at_t (allowed x (r.only x (inl refl)).0))
            (subst (λ y. Replays (feed y (S H ended C t)) l (S H ended C n)) (e ∙ ap some same) (ih l rest))
          where
            d : (o ∈ ended) × (o.effect ≡ t)
            d = logged H ended C t o e

            is_first : (o ≡ x) ⊎ (o ∈ l) → o ≡ x
            is_first (inl q) = q
            is_first (inr m) = let i = r.ascends.0 o m in let j = (r.only x (inl refl)).1 in let g = d.1 in absurd (omega arith)

            same : o ≡ x
            same = let g = d.1 in is_first (r.all o d.0 (omega arith))

            at_t : x.effect ≡ t
            at_t = ap (λ (z : Finished V). z.effect) (sym same) ∙ d.1

            rest : Rest (suc t) l
            rest = record { ascends = r.ascends.1; all = all; only = λ y m. ((r.only y (inr m)).0, (let i = r.ascends.0 y m in let j = at_t in omega arith)) }
              where
                all : (y : Finished V) → y ∈ ended → suc t ≤ y.effect → y ∈ l
                all y m i = in_rest (r.all y m (omega arith))
                  where
                    in_rest : (y ≡ x) ⊎ (y ∈ l) → y ∈ l
                    in_rest (inl q) = let g = ap (λ (z : Finished V). z.effect) q in let j = at_t in absurd (omega arith)
                    in_rest (inr q) = q

  failed : (o : Finished V) (a : ℕ) (v : V) → o ∈ ended → o.request ≡ sc a v → o.answer ≡ said false → MarkWasReset H ended o a
  failed o a v m e f =
      let s : Shown H ended o (sc a v) o.answer = subst (λ r. Shown H ended o r o.answer) e (C.each o m).shown in
      let c : ScShown H ended o a v false = subst (Shown H ended o (sc a v)) f s in
      let i = c.its_ll in
      let r = was_reset H i.linking.effect o.effect o.process a i.value i.before i.marked c.its_cas i.same_tag in
      record { its_ll = i; step = r.step; by_process = r.by_process; value = r.value; after_mark = r.after_mark; before_end = r.before_end; resets = r.resets; its_mark = r.its_mark }

pub order : {V : Type 0} → OrderLaw V
order H ended n C q = record {
  all = order_all ended;
  only = order_only ended;
  ascending = ascending H ended C;
  distinct = by_its_effect H ended C;
  store = S H ended C n;
  replays = replays_from H ended C n q.all_ended n 0 (omega arith) (by_effect ended)
      (record { ascends = ascending H ended C; all = λ o m i. order_all ended o m; only = λ o m. (order_only ended o m, omega arith) });
  stands = λ a. settles H ended C n a (λ t p v. q.no_commit t p a v);
  failures = failed H ended C;
}
