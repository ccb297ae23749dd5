-- Laws of a list of which a part was replaced.
use Rattle.std.specs.Prelude.{ℕ, zero, suc, ◌+◌, ◌-◌, ◌≤◌, ◌≡◌, refl, List, [], ◌∷◌, ◌++◌, length, take, drop}
use Rattle.std.proofs.Common.{sym, ap, ◌∙◌, arith, suc-add, take-take, drop-drop, take_at, drop_at, length-take-le}
use Rattle.std.proofs.Math.Seq.{take-nil}
use borrow.Rule.Slice.PartMut.{put_mid, take_put, drop_put, same_len_mid, mid_len}
use Rattle.parts.specs.Parts.{window, Replaced}

module _ {A : Type 0} where
  window-front : (b m : ℕ) (xs : List A) → window b m xs ≡ drop b (take (b + m) xs)
  window-front zero m xs = let q : 0 + m ≡ m = omega arith in rw q
  window-front (suc b) m [] = take-nil m ∙ sym (ap (drop (suc b)) (take-nil (suc b + m)))
  window-front (suc b) m (x ∷ xs) = window-front b m xs ∙ rw (suc-add b m)

  -- Windows before and behind a place up to which, or from which on, two lists are the same.
  pub window-before : (a b m : ℕ) (xs zs : List A) → b + m ≤ a → take a zs ≡ take a xs → window b m zs ≡ window b m xs
  window-before a b m xs zs l e =
      window-front b m zs ∙ ap (drop b) (sym (take-take (b + m) a zs l) ∙ ap (take (b + m)) e ∙ take-take (b + m) a xs l) ∙ sym (window-front b m xs)

  pub drop-behind : (e b : ℕ) (xs zs : List A) → e ≤ b → drop e zs ≡ drop e xs → drop b zs ≡ drop b xs
  drop-behind e b xs zs l q =
      let n : e + (b - e) ≡ b = omega arith in
      ap (λ (k : ℕ). drop k zs) (sym n) ∙ sym (drop-drop (b - e) e zs) ∙ ap (drop (b - e)) q ∙ drop-drop (b - e) e xs ∙ ap (λ (k : ℕ). drop k xs) n

  pub window-behind : (e b m : ℕ) (xs zs : List A) → e ≤ b → drop e zs ≡ drop e xs → window b m zs ≡ window b m xs
  window-behind e b m xs zs l q = ap (take m) (drop-behind e b xs zs l q)

  -- A part that was lent has come back.
  pub put-replaced : (a e : ℕ) (xs new : List A) → a ≤ e → e ≤ length xs → length new ≡ e - a → Replaced a e xs new (put_mid a (e - a) xs new)
  put-replaced a e xs new l m n = record {
    long = same_len_mid a (e - a) xs new (n ∙ sym (mid_len a e xs m));
    front = take_put a (e - a) xs new (omega arith);
    here = ap (take (length new)) (drop_at (take a xs) (new ++ drop (e - a) (drop a xs)) a (length-take-le a xs (omega arith)))
        ∙ take_at new (drop (e - a) (drop a xs)) (length new) refl;
    back = drop_put a e xs new l m n;
  }
