-- Two lists of which each item of the one belongs to the item of the other with the same index.
use Rattle.std.proofs.Common.{◌≡◌, List, [], ◌∷◌, ◌++◌, map, inl, inr, refl, sym, ap₂, subst}
use Rattle.std.specs.List.{AllZip}
use Rattle.table_definitions.proofs.TableLaws.{Among}

pub zip_back : {A B : Type 0} (R : A → B → Type 0) (xs : List A) (ys : List B) → AllZip R xs ys → (b : B) → Among b ys → (a : A) × Among a xs × R a b
zip_back R [] [] z b m = absurd m
zip_back R [] (y ∷ ys) z b m = absurd z
zip_back R (x ∷ xs) [] z b m = absurd m
zip_back R (x ∷ xs) (y ∷ ys) z b (inl e) = (x, inl refl, subst (R x) (sym e) z.0)
zip_back R (x ∷ xs) (y ∷ ys) z b (inr m) = let r = zip_back R xs ys z.1 b m in (r.0, inr r.1, r.2)

pub zip_on : {A B : Type 0} (R : A → B → Type 0) (xs : List A) (ys : List B) → AllZip R xs ys → (a : A) → Among a xs → (b : B) × Among b ys × R a b
zip_on R [] [] z a m = absurd m
zip_on R [] (y ∷ ys) z a m = absurd z
zip_on R (x ∷ xs) [] z a m = absurd z
zip_on {A} R (x ∷ xs) (y ∷ ys) z a (inl e) = (y, inl refl, subst (λ (c : A). R c y) (sym e) z.0)
zip_on R (x ∷ xs) (y ∷ ys) z a (inr m) = let r = zip_on R xs ys z.1 a m in (r.0, inr r.1, r.2)

-- if each item of the second list determines that of the first, the first list is the list of these
pub zip_map : {A B : Type 0} (R : A → B → Type 0) (f : B → A) → ((a : A) (b : B) → R a b → f b ≡ a) → (xs : List A) (ys : List B) → AllZip R xs ys → map f ys ≡ xs
zip_map R f reported [] [] z = refl
zip_map R f reported [] (y ∷ ys) z = absurd z
zip_map R f reported (x ∷ xs) [] z = absurd z
zip_map R f reported (x ∷ xs) (y ∷ ys) z = ap₂ ◌∷◌ (reported x y z.0) (zip_map R f reported xs ys z.1)

pub zip_append : {A B : Type 0} (R : A → B → Type 0) (xs others : List A) (ys more : List B) → AllZip R xs ys → AllZip R others more → AllZip R (xs ++ others) (ys ++ more)
zip_append R [] others [] more z w = w
zip_append R [] others (y ∷ ys) more z w = absurd z
zip_append R (x ∷ xs) others [] more z w = absurd z
zip_append R (x ∷ xs) others (y ∷ ys) more z w = (z.0, zip_append R xs others ys more z.1 w)
