-- The link of an SC that said yes is whole: nothing cut it since its LL.
use Rattle.std.proofs.Common.{◌≡◌, ℕ, suc, ◌<◌, ◌≤◌, Bool, true, false, cond, T, eqb, List, sym, refl, ap, ◌∙◌, arith, eqb→eq}
use mathlib.Core.Option.{Option, some, none}
use Rattle.protocol.specs.World.{World, id_cell, own_id, changed}
use Rattle.protocol.specs.History.{History}
use Rattle.protocol.specs.Operations.{Request, Answer, Finished}
use Rattle.protocol.specs.Operations.Request.{read, ll, sc, snapshot, kcss}
use Rattle.protocol.specs.Operations.Answer.{values, said}
use Rattle.protocol.specs.Lists.{◌∈◌}
use Rattle.protocol.specs.Store.{Link, Store}
use Rattle.protocol.specs.Replay.{Change, change, relink, break_link, break_links, store_after}
use Rattle.protocol.specs.Store.Link.{unlinked, whole, broken}
use Rattle.protocol.specs.Replay.Change.{nothing, set}
use Rattle.protocol.specs.Certificates.{KeepsLink, ItsLl, ScShown}
use Rattle.protocol.specs.Certified.{Certified}
use Rattle.protocol.proofs.Changes.{changed_here, changed_else, one_process, one_tag}
use Rattle.protocol.proofs.Time.{lasts}
use Rattle.protocol.proofs.Views.{mark_does, commit_can}
use Rattle.protocol.proofs.Marks.{put_of, stood_since}
use Rattle.protocol.proofs.Spans.{Sets, in_time, armed_at, one_yes, by_its_effect}
use Rattle.protocol.proofs.Settled.{feed, log, S, logged, unlogged}

break_else : (b a : ℕ) → (b ≡ a → ⊥) → break_link b (whole a) ≡ whole a
break_else b a h = go (eqb a b) (λ x. h (sym (eqb→eq a b x)))
  where
    go : (c : Bool) → (T c → ⊥) → cond c (broken a) (whole a) ≡ whole a
    go true k = absurd (k tt)
    go false k = refl

module _ {V : Type 0} where
  relink_else : (p q : ℕ) (r : Request V) (links : ℕ → Link) → (p ≡ q → KeepsLink r) → relink p r links q ≡ links q
  relink_else p q (read a) links h = refl
  relink_else p q (ll a) links h = changed_else links p (whole a) q (λ e. h (sym e))
  relink_else p q (sc a v) links h = changed_else links p unlinked q (λ e. h (sym e))
  relink_else p q (snapshot l) links h = refl
  relink_else p q (kcss f l v) links h = refl

  breaks_else : (y : Change V) (a : ℕ) → ((v : V) → y ≡ set a v → ⊥) → break_links y (whole a) ≡ whole a
  breaks_else nothing a h = refl
  breaks_else (set b v) a h = break_else b a (λ e. h v (cc))

  ll_changes_nothing : (a : ℕ) (s : Answer V) → change (ll a) s ≡ nothing
  ll_changes_nothing a (values l) = refl
  ll_changes_nothing a (said true) = refl
  ll_changes_nothing a (said false) = refl

  -- an LL makes a whole link
  after_ll : (x : Finished V) (s : Store V) (p a : ℕ) → x.process ≡ p → x.request ≡ ll a → (store_after x s).link p ≡ whole a
  after_ll x s p a e f =
      ap (λ r. break_links (change r x.answer) (relink x.process r s.link p)) f
      ∙ ap (λ y. break_links y (changed s.link x.process (whole a) p)) (ll_changes_nothing a x.answer)
      ∙ ap (changed s.link x.process (whole a)) (sym e)
      ∙ changed_here s.link x.process (whole a)

module _ {V : Type 0} (H : History V) (ended : List (Finished V)) (C : Certified H ended) where
  abbrev W : ℕ → World V
  W t = H.at t

  pub log_of : (o : Finished V) → o ∈ ended → log H ended C o.effect ≡ some o
  log_of o m = go (log H ended C o.effect) refl
    where
      go : (x : Option (Finished V)) → log H ended C o.effect ≡ x → log H ended C o.effect ≡ some o
      go none e = absurd (unlogged H ended C o.effect e o m refl)
      go (some o') e = let d = logged H ended C o.effect o' e in e ∙ ap some (by_its_effect H ended C o' o d.0 m d.1)

  module _ (o : Finished V) (a : ℕ) (new : V) (d : Sets ended o a new) (c : ScShown H ended o a new true) where
    abbrev L : ItsLl H ended o a
    L = c.its_ll

    -- from its LL on its mark stands
    stood : (u : ℕ) → L.linking.effect < u → u ≤ o.effect → (W u).val a ≡ own_id (W o.effect) o.process
    stood u h k =
        let p = o.process in
        let s = suc L.linking.effect in
        let n : (W s).val a ≡ own_id (W o.effect) p = (mark_does H L.linking.effect p a L.value L.marked).0 ∙ ap (id_cell p) L.same_tag in
        stood_since H s o.effect a p ((W o.effect).tag p) (put_of H s a p ((W o.effect).tag p) n) (commit_can H o.effect p a new c.its_cas).1 u h k

    -- no other yes at a takes effect meanwhile
    no_yes : (x : Finished V) (v : V) → Sets ended x a v → L.linking.effect < x.effect → x.effect < o.effect → ⊥
    no_yes x v e h k =
        let y = (armed_at H ended C x a v e x.effect (omega arith) (in_time H ended C x e.0)).in_val in
        let z = stood x.effect h (omega arith) in
        let i = one_process ((W x.effect).val a) x.process o.process ((W x.last).tag x.process) ((W o.effect).tag o.process) y z in
        let j = one_tag ((W x.effect).val a) x.process o.process ((W x.last).tag x.process) ((W o.effect).tag o.process) y z in
        let l = ap (λ (z : Finished V). z.effect) (one_yes H ended C x o a v new e d i (j ∙ ap (λ t. (W t).tag o.process) (sym c.at_once))) in
        omega arith

    pub linked : (S H ended C o.effect).link o.process ≡ whole a
    linked = lasts (λ x. x ≤ o.effect → (S H ended C x).link o.process ≡ whole a) (suc L.linking.effect) move first o.effect L.before (omega arith)
      where
        first : suc L.linking.effect ≤ o.effect → (S H ended C (suc L.linking.effect)).link o.process ≡ whole a
        first k =
            ap (λ x. (feed x (S H ended C L.linking.effect)).link o.process) (log_of L.linking L.is_listed)
            ∙ after_ll L.linking (S H ended C L.linking.effect) o.process a L.same_process L.asked

        move : (x : ℕ) → suc L.linking.effect ≤ x → (x ≤ o.effect → (S H ended C x).link o.process ≡ whole a) → suc x ≤ o.effect → (S H ended C (suc x)).link o.process ≡ whole a
        move x i ih j = go (log H ended C x) refl
          where
            go : (y : Option (Finished V)) → log H ended C x ≡ y → (S H ended C (suc x)).link o.process ≡ whole a
            go none e = ap (λ z. (feed z (S H ended C x)).link o.process) e ∙ ih (omega arith)
            go (some o') e =
                let k = logged H ended C x o' e in
                let f = k.1 in
                ap (λ z. (feed z (S H ended C x)).link o.process) e
                ∙ ap (break_links (change o'.request o'.answer))
                (relink_else o'.process o.process o'.request (S H ended C x).link (λ g. L.latest o' k.0 g (omega arith) (omega arith)) ∙ ih (omega arith))
                ∙ breaks_else (change o'.request o'.answer) a (λ v g. no_yes o' v (k.0, g) (omega arith) (omega arith))
