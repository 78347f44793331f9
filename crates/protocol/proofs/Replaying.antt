-- The replay as a relation and the replay by recursion say the same.
use Rattle.std.proofs.Common.{◌≡◌, List, [], ◌∷◌, refl}
use Rattle.protocol.specs.Operations.{Finished}
use Rattle.protocol.specs.Store.{Store}
use Rattle.protocol.specs.Replay.{store_after, Replays, Lawful, store_after_all, Agree}
use Rattle.protocol.specs.Replay.Replays.{at_end, then_on}

module _ {V : Type 0} where
  pub lawful_of : (s : Store V) (l : List (Finished V)) (end : Store V) → Replays s l end → Lawful s l
  lawful_of s l end (at_end x) = tt
  lawful_of s l end (then_on x o more y h r) = (h, lawful_of (store_after o x) more y r)

  pub ends_so : (s : Store V) (l : List (Finished V)) (end : Store V) → Replays s l end → store_after_all s l ≡ end
  ends_so s l end (at_end x) = refl
  ends_so s l end (then_on x o more y h r) = ends_so (store_after o x) more y r

  pub replays_of : (s : Store V) (l : List (Finished V)) → Lawful s l → Replays s l (store_after_all s l)
  replays_of s [] h = at_end s
  replays_of s (o ∷ l) h = then_on s o l (store_after_all (store_after o s) l) h.0 (replays_of (store_after o s) l h.1)

  pub agree : (s : Store V) (l : List (Finished V)) → Agree s l
  agree s l = record { lawful = lawful_of s l; ends_so = ends_so s l; replays = replays_of s l }
