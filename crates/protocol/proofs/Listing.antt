-- Lists of finished operations: their order by effect has the same operations, and finds each at its effect.
use Rattle.std.proofs.Common.{◌≡◌, ℕ, ◌<◌, ◌≤◌, Bool, true, false, cond, T, eqb, leb, ◌⊎◌, List, [], ◌∷◌, sym, refl, ap, ◌∙◌, subst, inl, inr, arith, le→leb, eqb→eq, leb→le}
use mathlib.Core.Option.{Option, some, none}
use native.Mathlib.Decide.{dec_le}
use lib.Dec.{eqb_refl}
use Rattle.protocol.specs.Operations.{Finished}
use Rattle.protocol.specs.Lists.{◌∈◌, Once, Apart, insert, by_effect, Ascending}
use Rattle.protocol.proofs.Changes.{clash}

module _ {V : Type 0} where
  insert_all : (o x : Finished V) (l : List (Finished V)) → (x ≡ o) ⊎ (x ∈ l) → x ∈ insert o l
  insert_all o x [] k = k
  insert_all o x (y ∷ l) k = go (leb o.effect y.effect) k (insert_all o x l)
    where
      go : (b : Bool) → (x ≡ o) ⊎ ((x ≡ y) ⊎ (x ∈ l)) → ((x ≡ o) ⊎ (x ∈ l) → x ∈ insert o l) → x ∈ cond b (o ∷ y ∷ l) (y ∷ insert o l)
      go true k ih = k
      go false (inl e) ih = inr (ih (inl e))
      go false (inr (inl e)) ih = inl e
      go false (inr (inr m)) ih = inr (ih (inr m))

  insert_only : (o x : Finished V) (l : List (Finished V)) → x ∈ insert o l → (x ≡ o) ⊎ (x ∈ l)
  insert_only o x [] k = k
  insert_only o x (y ∷ l) k = go (leb o.effect y.effect) k (insert_only o x l)
    where
      there : (x ≡ o) ⊎ (x ∈ l) → (x ≡ o) ⊎ ((x ≡ y) ⊎ (x ∈ l))
      there (inl e) = inl e
      there (inr m) = inr (inr m)

      go : (b : Bool) → x ∈ cond b (o ∷ y ∷ l) (y ∷ insert o l) → (x ∈ insert o l → (x ≡ o) ⊎ (x ∈ l)) → (x ≡ o) ⊎ ((x ≡ y) ⊎ (x ∈ l))
      go true k ih = k
      go false (inl e) ih = inr (inl e)
      go false (inr m) ih = there (ih m)

  insert_ascending : (o : Finished V) (l : List (Finished V)) → Ascending l → ((x : Finished V) → x ∈ l → o.effect ≡ x.effect → ⊥) → Ascending (insert o l)
  insert_ascending o [] s h = (λ x m. absurd m, tt)
  insert_ascending o (y ∷ l) s h =
      go (leb o.effect y.effect) (leb→le o.effect y.effect) (le→leb o.effect y.effect)
      (insert_ascending o l s.1 (λ x m. h x (inr m)))
    where
      go : (b : Bool) → (T b → o.effect ≤ y.effect) → (o.effect ≤ y.effect → T b) → Ascending (insert o l) → Ascending (cond b (o ∷ y ∷ l) (y ∷ insert o l))
      go true k k' ih = (first, s)
        where
          below : o.effect < y.effect
          below = let i = k tt in let j = h y (inl refl) in omega arith

          first : (x : Finished V) → x ∈ (y ∷ l) → o.effect < x.effect
          first x (inl e) = let i = ap (λ (z : Finished V). z.effect) e in let j = below in omega arith
          first x (inr m) = let i = s.0 x m in let j = below in omega arith
      go false k k' ih = (λ x m. first x (insert_only o x l m), ih)
        where
          above : y.effect < o.effect
          above = elim (dec_le o.effect y.effect) [ yes i ↦ absurd (k' i) | no i ↦ omega arith ]

          first : (x : Finished V) → (x ≡ o) ⊎ (x ∈ l) → y.effect < x.effect
          first x (inl e) = let i = ap (λ (z : Finished V). z.effect) e in let j = above in omega arith
          first x (inr m) = s.0 x m

  pub order_all : (l : List (Finished V)) (x : Finished V) → x ∈ l → x ∈ by_effect l
  order_all [] x m = m
  order_all (o ∷ l) x (inl e) = insert_all o x (by_effect l) (inl e)
  order_all (o ∷ l) x (inr m) = insert_all o x (by_effect l) (inr (order_all l x m))

  pub order_only : (l : List (Finished V)) (x : Finished V) → x ∈ by_effect l → x ∈ l
  order_only [] x m = m
  order_only (o ∷ l) x m = go (insert_only o x (by_effect l) m) (order_only l x)
    where
      go : (x ≡ o) ⊎ (x ∈ by_effect l) → (x ∈ by_effect l → x ∈ l) → (x ≡ o) ⊎ (x ∈ l)
      go (inl e) ih = inl e
      go (inr k) ih = inr (ih k)

  -- effects that ascend are those of different operations
  pub ascending_once : (l : List (Finished V)) → Ascending l → Once l
  ascending_once [] a = tt
  ascending_once (o ∷ l) a = ((λ m. let h = a.0 o m in omega arith), ascending_once l a.1)

  -- where equal effects have equal last steps, the effects ascend
  pub order_ascending : (l : List (Finished V)) → ((x y : Finished V) → x ∈ l → y ∈ l → x.effect ≡ y.effect → x.last ≡ y.last) → Apart l → Ascending (by_effect l)
  order_ascending [] same apart = tt
  order_ascending (o ∷ l) same apart =
      insert_ascending o (by_effect l) (order_ascending l (λ x y i j. same x y (inr i) (inr j)) apart.1)
      (λ x m e. apart.0 x (order_only l x m) (same o x (inl refl) (inr (order_only l x m)) e))

  -- a last step names its operation
  pub by_last : (l : List (Finished V)) → Apart l → (x y : Finished V) → x ∈ l → y ∈ l → x.last ≡ y.last → x ≡ y
  by_last [] apart x y m n e = absurd m
  by_last (o ∷ l) apart x y (inl i) (inl j) e = i ∙ sym j
  by_last (o ∷ l) apart x y (inl i) (inr n) e = absurd (apart.0 y n (ap (λ (z : Finished V). z.last) (sym i) ∙ e))
  by_last (o ∷ l) apart x y (inr m) (inl j) e = absurd (apart.0 x m (ap (λ (z : Finished V). z.last) (sym j) ∙ sym e))
  by_last (o ∷ l) apart x y (inr m) (inr n) e = by_last l apart.1 x y m n e

  -- the first operation of the list with the given effect
  abbrev pub find : ℕ → List (Finished V) → Option (Finished V)
  find t [] = none
  find t (o ∷ l) = cond (eqb o.effect t) (some o) (find t l)

  pub found : (t : ℕ) (l : List (Finished V)) (o : Finished V) → find t l ≡ some o → (o ∈ l) × (o.effect ≡ t)
  found t [] o e = clash (cc)
  found t (x ∷ l) o e = go (eqb x.effect t) (eqb→eq x.effect t) e (found t l o)
    where
      go : (b : Bool) → (T b → x.effect ≡ t) → cond b (some x) (find t l) ≡ some o → (find t l ≡ some o → (o ∈ l) × (o.effect ≡ t)) → (o ∈ (x ∷ l)) × (o.effect ≡ t)
      go true k e ih = let i : o ≡ x = cc in (inl i, ap (λ (z : Finished V). z.effect) i ∙ k tt)
      go false k e ih = let d = ih e in (inr d.0, d.1)

  pub missing : (t : ℕ) (l : List (Finished V)) → find t l ≡ none → (o : Finished V) → o ∈ l → o.effect ≡ t → ⊥
  missing t [] e o m h = m
  missing t (x ∷ l) e o m h = go (eqb x.effect t) there e m (missing t l)
    where
      there : x.effect ≡ t → T (eqb x.effect t)
      there k = subst (λ z. T (eqb x.effect z)) k (eqb_refl x.effect)

      go : (b : Bool) → (x.effect ≡ t → T b) → cond b (some x) (find t l) ≡ none → o ∈ (x ∷ l)
          → (find t l ≡ none → (z : Finished V) → z ∈ l → z.effect ≡ t → ⊥) → ⊥
      go true k e m ih = clash (cc)
      go false k e (inl i) ih = k (ap (λ (z : Finished V). z.effect) (sym i) ∙ h)
      go false k e (inr n) ih = ih e o n h
