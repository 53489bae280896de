-- One read after another, and one write after another.
use Rattle.std.proofs.Common.{◌≡◌, ℕ, ◌+◌, ◌-◌, ◌≤◌, List, [], ◌++◌, length, take, drop, refl, sym, ap, ◌∙◌, subst, append_assoc, arith, Option, Some, None}
use Rattle.std.proofs.lemmas.List.{length-take-le, take-append-le, take-take, take_all, take_at}
use Rattle.std.proofs.Math.Seq.{take-append-add, take-add}
use Rattle.text_io.specs.Causes.{TakesBytes, Grows}

-- no bytes are taken
pub takes_none : (a : Option (List ℕ)) → TakesBytes a a []
takes_none None = tt
takes_none (Some x) = refl

takes_more : (a b c : Option (List ℕ)) (xs ys : List ℕ) → TakesBytes a b xs → TakesBytes b c ys → TakesBytes a c (xs ++ ys)
takes_more None None None xs ys h k = tt
takes_more None None (Some z) xs ys h k = k
takes_more None (Some y) c xs ys h k = absurd h
takes_more (Some x) None c xs ys h k = absurd h
takes_more (Some x) (Some y) None xs ys h k = k
takes_more (Some x) (Some y) (Some z) xs ys h k = h ∙ ap (λ t. xs ++ t) k ∙ sym (append_assoc xs ys z)

grows_more : (a b c : Option (List ℕ)) (xs ys : List ℕ) → Grows a b xs → Grows b c ys → Grows a c (xs ++ ys)
grows_more None None None xs ys h k = tt
grows_more None None (Some z) xs ys h k = k
grows_more None (Some y) c xs ys h k = absurd h
grows_more (Some x) None c xs ys h k = absurd h
grows_more (Some x) (Some y) None xs ys h k = k
grows_more (Some x) (Some y) (Some z) xs ys h k = k ∙ ap (λ t. t ++ ys) h ∙ append_assoc x xs ys

-- the first bytes of the buffer d, and the bytes that were read after them
filled : (d buf p q : List ℕ) (len count v : ℕ) → len ≤ length d → count ≤ length buf → len + count ≤ v →
    take (len + count) (take v ((take len d ++ (buf ++ p)) ++ q)) ≡ take len d ++ take count buf
filled d buf p q len count v in_d in_buf in_v =
    let front : length (take len d) ≡ len = length-take-le len d in_d in
    take-take (len + count) v _ in_v
    ∙ ap (take (len + count)) (append_assoc (take len d) (buf ++ p) q ∙ ap (λ t. take len d ++ t) (append_assoc buf p q))
    ∙ ap (λ k. take (k + count) (take len d ++ (buf ++ (p ++ q)))) (sym front)
    ∙ take-append-add (take len d) (buf ++ (p ++ q)) count
    ∙ ap (λ t. take len d ++ t) (take-append-le count buf (p ++ q) in_buf)

-- a read into the buffer after its first bytes
pub read_more : (a b c : Option (List ℕ)) (d buf p q : List ℕ) (len count v : ℕ) → len ≤ length d → count ≤ length buf → len + count ≤ v →
    TakesBytes a b (take len d) → TakesBytes b c (take count buf) → TakesBytes a c (take (len + count) (take v ((take len d ++ (buf ++ p)) ++ q)))
read_more a b c d buf p q len count v in_d in_buf in_v h k =
    subst (TakesBytes a c) (sym (filled d buf p q len count v in_d in_buf in_v)) (takes_more a b c (take len d) (take count buf) h k)

-- the bytes before the room that was made for a read do not change
pub front_kept : (front whole fill : List ℕ) (len more : ℕ) → length front ≡ len → whole ≡ take (len + more) front ++ fill → take len whole ≡ front
front_kept front whole fill len more count is =
    ap (take len) (is ∙ ap (λ t. t ++ fill) (take_all (len + more) front (omega arith))) ∙ take_at front fill len count

-- a write of the bytes after those that were written
pub write_more : (a b c : Option (List ℕ)) (bs : List ℕ) (written count : ℕ) → count ≤ length bs - written →
    Grows a b (take written bs) → Grows b c (take count (take (length bs - written) (drop written bs))) → Grows a c (take (written + count) bs)
write_more a b c bs written count within h k =
    subst (Grows a c)
    (ap (λ t. take written bs ++ t) (take-take count (length bs - written) (drop written bs) within) ∙ sym (take-add written count bs))
    (grows_more a b c (take written bs) (take count (take (length bs - written) (drop written bs))) h k)
