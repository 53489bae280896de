-- Readers that are written out as a chain of calls succeed if and only if words and lines have the form of the chain.
-- There is a law for each call of a chain.
use Rattle.std.proofs.Common.{◌≡◌, ℕ, suc, List, [], ◌∷◌, ◌++◌, length, Result, Ok, refl, sym, ap, ◌∙◌, subst}
use Rattle.std.specs.List.{AllZip}
use Rattle.text_definitions.specs.Text.{Token, word, Line}
use Rattle.text_definitions.specs.Written.{limit}
use Rattle.text_definitions.specs.declared.LexFault.{LexFault}
use Rattle.text_definitions.specs.Reading.{Reading, ◌>>=◌, begun, need_line_at, end_line_at, number_at, numbers_at, signed_at, exactly_at}
use Rattle.text_definitions.proofs.Readers.{bind_ok}
use Rattle.basic_lemmas.proofs.Options.{ok_value}
use Rattle.table_definitions.specs.Grammar.{AreWords, IsDecimalUpTo, IsSigned}
use Rattle.table_definitions.proofs.ReadingLaws.{with_tokens, behind, TakesWord, TakesNumber, TakesNumbers, FindsNumbers, number_read, numbers_read, exactly_read, one_number, exactly_found, numbers_found}
use Rattle.table_definitions.proofs.LineLaws.{line_begun, line_found, line_ended, end_found, first_word, no_words}
use Rattle.text_document_laws.proofs.SignedLaws.{TakesSigned, signed_read, signed_found}
use Rattle.text_document_laws.proofs.Chains.{Reader, made, join}

-- a relation between a value, the words of the rest of a line, the lines after it, and those that remain; and one
-- between a value and lines alone
abbrev pub OnLine : Type 0 → Type 1
OnLine A = A → List (List ℕ) → List Line → List Line → Type 0

abbrev pub Below : Type 0 → Type 1
Below A = A → List Line → List Line → Type 0

pub record ReadsOn {A : Type 0} (r : Reader A) (R : OnLine A) : Type 0 where
  pub sound : (c : Reading) (x : A) (d : Reading) → r c ≡ Ok (x, d) → (ws : List (List ℕ)) × AreWords c.current.tokens ws × R x ws c.later d.later
  pub complete : (c : Reading) (x : A) (ws : List (List ℕ)) (rest : List Line) → AreWords c.current.tokens ws → R x ws c.later rest → (d : Reading) × (r c ≡ Ok (x, d)) × (d.later ≡ rest)
  pub at_end : (c : Reading) (x : A) (d : Reading) → r c ≡ Ok (x, d) → d.current.tokens ≡ []

pub record ReadsBelow {A : Type 0} (r : Reader A) (S : Below A) : Type 0 where
  pub sound : (c : Reading) (x : A) (d : Reading) → r c ≡ Ok (x, d) → S x c.later d.later
  pub complete : (c : Reading) (x : A) (rest : List Line) → S x c.later rest → (d : Reading) × (r c ≡ Ok (x, d)) × (d.later ≡ rest)
  pub at_end : (c : Reading) (x : A) (d : Reading) → r c ≡ Ok (x, d) → c.current.tokens ≡ [] → d.current.tokens ≡ []

-- an equivalent relation
pub on_as : {A : Type 0} (r : Reader A) (R Q : OnLine A) → ((x : A) (ws : List (List ℕ)) (ls rest : List Line) → R x ws ls rest → Q x ws ls rest) → ((x : A) (ws : List (List ℕ)) (ls rest : List Line) → Q x ws ls rest → R x ws ls rest)
    → ReadsOn r R → ReadsOn r Q
on_as r R Q to from one = record { sound = λ c x d e. (let s = one.sound c x d e in (s.0, s.1, to x s.0 c.later d.later s.2)); complete = λ c x ws rest a h. one.complete c x ws rest a (from x ws c.later rest h); at_end = one.at_end }

pub below_as : {A : Type 0} (r : Reader A) (S Q : Below A) → ((x : A) (ls rest : List Line) → S x ls rest → Q x ls rest) → ((x : A) (ls rest : List Line) → Q x ls rest → S x ls rest) → ReadsBelow r S → ReadsBelow r Q
below_as r S Q to from one = record { sound = λ c x d e. to x c.later d.later (one.sound c x d e); complete = λ c x rest h. one.complete c x rest (from x c.later rest h); at_end = one.at_end }

-- a word, and what is read after it
word_before : (c b : Reading) (v : List ℕ) (ws : List (List ℕ)) → TakesWord c.current.tokens c v b → AreWords b.current.tokens ws → AreWords c.current.tokens (v ∷ ws)
word_before c b v ws t a = subst (λ (ts : List Token). AreWords ts (v ∷ ws)) (sym t.tokens) (refl, subst (λ (r : Reading). AreWords r.current.tokens ws) t.left a)

later_same : (c b : Reading) (v : List ℕ) → TakesWord c.current.tokens c v b → b.later ≡ c.later
later_same c b v t = ap (λ (r : Reading). r.later) t.left

module _ {A : Type 0} (w : List ℕ) (r : Reader A) (R : OnLine A) (one : ReadsOn r R) where
  abbrev Named : OnLine A
  Named x ws ls rest = (others : List (List ℕ)) × (ws ≡ w ∷ others) × R x others ls rest

  pub on_named : ReadsOn (λ c. exactly_at w c >>= r) Named
  on_named = record {
    sound = λ c x d e. (let f = bind_ok (exactly_at w c) r (x, d) e in
        let t = exactly_read w c.current.tokens c f.0 f.1 in
        let o = one.sound f.0 x d f.2 in
        (w ∷ o.0, word_before c f.0 w o.0 t o.1, (o.0, refl, subst (λ (ls : List Line). R x o.0 ls d.later) (later_same c f.0 w t) o.2)));
    complete = λ c x ws rest a h. (let f = first_word c.current.tokens w h.0 (subst (λ (vs : List (List ℕ)). AreWords c.current.tokens vs) h.1 a) in
        let g = one.complete (with_tokens f.rest (behind f.column c)) x h.0 rest f.others h.2 in
        (g.0, ap (λ (q : Result Reading LexFault). q >>= r) (ap (λ (ts : List Token). exactly_at w (with_tokens ts c)) f.tokens ∙ exactly_found f.column w w f.rest c refl) ∙ g.1, g.2));
    at_end = λ c x d e. (let f = bind_ok (exactly_at w c) r (x, d) e in one.at_end f.0 x d f.2);
  }

-- a reader of one word of the form `Is`
pub record ReadsWord {A : Type 0} (read : Reader A) (Is : List ℕ → A → Type 0) : Type 0 where
  pub sound : (c : Reading) (x : A) (d : Reading) → read c ≡ Ok (x, d) → (v : List ℕ) × TakesWord c.current.tokens c v d × Is v x
  pub complete : (column : ℕ) (v : List ℕ) (x : A) (ts : List Token) (c : Reading) → Is v x → read (with_tokens (word column v ∷ ts) c) ≡ Ok (x, with_tokens ts (behind column c))

module _ {A B : Type 0} (read : Reader B) (Is : List ℕ → B → Type 0) (words : ReadsWord read Is) (r : B → Reader A) (R : B → OnLine A) (one : (y : B) → ReadsOn (r y) (R y)) where
  abbrev FirstWord : OnLine A
  FirstWord x ws ls rest = (y : B) × (v : List ℕ) × (others : List (List ℕ)) × (ws ≡ v ∷ others) × Is v y × R y x others ls rest

  abbrev behind_word : B × Reading → Result (A × Reading) LexFault
  behind_word y = r y.0 y.1

  pub on_word : ReadsOn (λ c. read c >>= behind_word) FirstWord
  on_word = record {
    sound = λ c x d e. (let f = bind_ok (read c) behind_word (x, d) e in
        let t = words.sound c f.0.0 f.0.1 f.1 in
        let o = (one f.0.0).sound f.0.1 x d f.2 in
        (t.0 ∷ o.0, word_before c f.0.1 t.0 o.0 t.1 o.1, (f.0.0, t.0, o.0, refl, t.2, subst (λ (ls : List Line). R f.0.0 x o.0 ls d.later) (later_same c f.0.1 t.0 t.1) o.2)));
    complete = λ c x ws rest a h. (let f = first_word c.current.tokens h.1 h.2 (subst (λ (vs : List (List ℕ)). AreWords c.current.tokens vs) h.3 a) in
        let g = (one h.0).complete (with_tokens f.rest (behind f.column c)) x h.2 rest f.others h.5 in
        (g.0, ap (λ (q : Result (B × Reading) LexFault). q >>= behind_word) (ap (λ (ts : List Token). read (with_tokens ts c)) f.tokens ∙ words.complete f.column h.1 h.0 f.rest c h.4) ∙ g.1, g.2));
    at_end = λ c x d e. (let f = bind_ok (read c) behind_word (x, d) e in (one f.0.0).at_end f.0.1 x d f.2);
  }

pub reads_number : (max : ℕ) → ReadsWord (number_at max) (IsDecimalUpTo max)
reads_number max = record {
  sound = λ c n d e. (let t : TakesNumber max c.current.tokens c n d = number_read max c.current.tokens c n d e in (t.w, t.word, t.number));
  complete = λ column v n ts c h. one_number max column v n ts c h;
}

pub reads_signed : (max : ℕ) → ReadsWord (signed_at max) (IsSigned max)
reads_signed max = record {
  sound = λ c z d e. (let t : TakesSigned max c.current.tokens c z d = signed_read max c.current.tokens c z d e in (t.w, t.word, t.signed));
  complete = λ column v z ts c h. signed_found max column v z ts c h;
}

pub on_number : {A : Type 0} (max : ℕ) (r : ℕ → Reader A) (R : ℕ → OnLine A) → ((n : ℕ) → ReadsOn (r n) (R n)) → ReadsOn (λ c. number_at max c >>= λ (n : ℕ × Reading). r n.0 n.1) (λ x ws ls rest. (n : ℕ) × (v : List ℕ) × (others : List (List ℕ)) × (ws ≡ v ∷ others) × IsDecimalUpTo max v n × R n x others ls rest)
on_number max r R one = on_word (number_at max) (IsDecimalUpTo max) (reads_number max) r R one

pub on_numbers : ReadsOn (numbers_at limit) (λ xs ws ls rest. AllZip (IsDecimalUpTo limit) ws xs × (ls ≡ rest))
on_numbers = record {
  sound = λ c xs d e. (let t : TakesNumbers limit c.current.tokens c xs d = numbers_read limit c.current.tokens c xs d e in (t.ws, t.are_words, (t.numbers, sym t.later)));
  complete = λ c xs ws rest a h. (let f : FindsNumbers limit c.current.tokens c xs = numbers_found limit c.current.tokens ws xs c a h.0 in (f.left, f.read, f.later ∙ h.1));
  at_end = λ c xs d e. (let t : TakesNumbers limit c.current.tokens c xs d = numbers_read limit c.current.tokens c xs d e in t.at_end);
}

-- the end of the line; the next line
pub on_end : {A : Type 0} (r : Reader A) (S : Below A) → ReadsBelow r S → ReadsOn (λ c. end_line_at c >>= r) (λ x ws ls rest. (ws ≡ []) × S x ls rest)
on_end {A} r S one = record {
  sound = λ c x d e. (let f = bind_ok (end_line_at c) r (x, d) e in
      let t = line_ended c.current.tokens c f.0 f.1 in
      ([], subst (λ (ts : List Token). AreWords ts []) (sym t.0) tt, (refl, subst (λ (b : Reading). S x b.later d.later) t.1 (one.sound f.0 x d f.2))));
  complete = λ c x ws rest a h. (let none : c.current.tokens ≡ [] = no_words c.current.tokens (subst (λ (vs : List (List ℕ)). AreWords c.current.tokens vs) h.0 a) in
      let g = one.complete (with_tokens [] c) x rest h.1 in
      (g.0, ap (λ (q : Result Reading LexFault). q >>= r) (end_found c.current.tokens c none) ∙ g.1, g.2));
  at_end = λ c x d e. (let f = bind_ok (end_line_at c) r (x, d) e in one.at_end f.0 x d f.2 (ap (λ (b : Reading). b.current.tokens) (line_ended c.current.tokens c f.0 f.1).1));
}

pub below_line : {A : Type 0} (r : Reader A) (R : OnLine A) → ReadsOn r R
    → ReadsBelow (λ c. need_line_at c >>= r) (λ x ls rest. (l : Line) × (more : List Line) × (ws : List (List ℕ)) × (ls ≡ l ∷ more) × AreWords l.tokens ws × R x ws more rest)
below_line {A} r R one = record {
  sound = λ c x d e. (let f = bind_ok (need_line_at c) r (x, d) e in
      let b = line_begun c f.0 f.1 in
      let o = one.sound f.0 x d f.2 in
      (b.line, b.rest, o.0, b.lines, subst (λ (r : Reading). AreWords r.current.tokens o.0) b.left o.1, subst (λ (r : Reading). R x o.0 r.later d.later) b.left o.2));
  complete = λ c x rest h. (let g = one.complete (begun h.0 h.1 c) x h.2 rest h.4 h.5 in (g.0, ap (λ (q : Result Reading LexFault). q >>= r) (line_found c h.0 h.1 h.3) ∙ g.1, g.2));
  at_end = λ c x d e h. (let f = bind_ok (need_line_at c) r (x, d) e in one.at_end f.0 x d f.2);
}

-- one reader after another
module _ {A B C : Type 0} (make : A → B → C) (r : Reader A) (s : Reader B) where
  abbrev second : A × Reading → Result (C × Reading) LexFault
  second x = made (make x.0) s x.1

  join_parts : (c : Reading) (z : C) (e : Reading) → join make r s c ≡ Ok (z, e) → (x : A) × (y : B) × (d : Reading) × (r c ≡ Ok (x, d)) × (s d ≡ Ok (y, e)) × (make x y ≡ z)
  join_parts c z e h =
      let f = bind_ok (r c) second (z, e) h in
      let g = bind_ok (s f.0.1) (λ (y : B × Reading). Ok (make f.0.0 y.0, y.1)) (z, e) f.2 in
      let same : (make f.0.0 g.0.0, g.0.1) ≡ (z, e) = sym (ok_value (make f.0.0 g.0.0, g.0.1) (z, e) g.2) in
      (f.0.0, g.0.0, f.0.1, f.1, g.1 ∙ ap (λ (q : C × Reading). Ok (g.0.0, q.1)) same, ap (λ (q : C × Reading). q.0) same)

  join_found : (S : Below B) → ReadsBelow s S → (c d : Reading) (x : A) (y : B) (middle rest : List Line) (z : C) → r c ≡ Ok (x, d) → d.later ≡ middle → S y middle rest → make x y ≡ z → (e : Reading) × (join make r s c ≡ Ok (z, e)) × (e.later ≡ rest)
  join_found S two c d x y middle rest z p later h same =
      let g = two.complete d y rest (subst (λ (ls : List Line). S y ls rest) (sym later) h) in
      (g.0, ap (λ (q : Result (A × Reading) LexFault). q >>= second) p ∙ ap (λ (q : Result (B × Reading) LexFault). q >>= λ (b : B × Reading). Ok (make x b.0, b.1)) g.1 ∙ ap (λ (k : C). Ok (k, g.0)) same, g.2)

  pub on_join : (R : OnLine A) (S : Below B) → ReadsOn r R → ReadsBelow s S → ReadsOn (join make r s) (λ z ws ls rest. (x : A) × (y : B) × (middle : List Line) × (make x y ≡ z) × R x ws ls middle × S y middle rest)
  on_join R S one two = record {
    sound = λ c z e h. (let p = join_parts c z e h in
        let o = one.sound c p.0 p.2 p.3 in
        (o.0, o.1, (p.0, p.1, p.2.later, p.5, o.2, two.sound p.2 p.1 e p.4)));
    complete = λ c z ws rest a h. (let f = one.complete c h.0 ws h.2 a h.4 in join_found S two c f.0 h.0 h.1 h.2 rest z f.1 f.2 h.5 h.3);
    at_end = λ c z e h. (let p = join_parts c z e h in two.at_end p.2 p.1 e p.4 (one.at_end c p.0 p.2 p.3));
  }

  pub below_join : (R : Below A) (S : Below B) → ReadsBelow r R → ReadsBelow s S → ReadsBelow (join make r s) (λ z ls rest. (x : A) × (y : B) × (middle : List Line) × (make x y ≡ z) × R x ls middle × S y middle rest)
  below_join R S one two = record {
    sound = λ c z e h. (let p = join_parts c z e h in (p.0, p.1, p.2.later, p.5, one.sound c p.0 p.2 p.3, two.sound p.2 p.1 e p.4));
    complete = λ c z rest h. (let f = one.complete c h.0 h.2 h.4 in join_found S two c f.0 h.0 h.1 h.2 rest z f.1 f.2 h.5 h.3);
    at_end = λ c z e h none. (let p = join_parts c z e h in two.at_end p.2 p.1 e p.4 (one.at_end c p.0 p.2 p.3 none));
  }

-- a function of what a reader returns
module _ {A B : Type 0} (make : A → B) (r : Reader A) where
  made_parts : (c : Reading) (y : B) (d : Reading) → made make r c ≡ Ok (y, d) → (x : A) × (r c ≡ Ok (x, d)) × (make x ≡ y)
  made_parts c y d h =
      let f = bind_ok (r c) (λ (x : A × Reading). Ok (make x.0, x.1)) (y, d) h in
      let same : (make f.0.0, f.0.1) ≡ (y, d) = sym (ok_value (make f.0.0, f.0.1) (y, d) f.2) in
      (f.0.0, f.1 ∙ ap (λ (q : B × Reading). Ok (f.0.0, q.1)) same, ap (λ (q : B × Reading). q.0) same)

  made_found : (c d : Reading) (x : A) (y : B) → r c ≡ Ok (x, d) → make x ≡ y → made make r c ≡ Ok (y, d)
  made_found c d x y p same = ap (λ (q : Result (A × Reading) LexFault). q >>= λ (x : A × Reading). Ok (make x.0, x.1)) p ∙ ap (λ (k : B). Ok (k, d)) same

  pub on_made : (R : OnLine A) → ReadsOn r R → ReadsOn (made make r) (λ y ws ls rest. (x : A) × (make x ≡ y) × R x ws ls rest)
  on_made R one = record {
    sound = λ c y d h. (let p = made_parts c y d h in let o = one.sound c p.0 d p.1 in (o.0, o.1, (p.0, p.2, o.2)));
    complete = λ c y ws rest a h. (let f = one.complete c h.0 ws rest a h.2 in (f.0, made_found c f.0 h.0 y f.1 h.1, f.2));
    at_end = λ c y d h. (let p = made_parts c y d h in one.at_end c p.0 d p.1);
  }

  pub below_made : (S : Below A) → ReadsBelow r S → ReadsBelow (made make r) (λ y ls rest. (x : A) × (make x ≡ y) × S x ls rest)
  below_made S one = record {
    sound = λ c y d h. (let p = made_parts c y d h in (p.0, p.2, one.sound c p.0 d p.1));
    complete = λ c y rest h. (let f = one.complete c h.0 rest h.2 in (f.0, made_found c f.0 h.0 y f.1 h.1, f.2));
    at_end = λ c y d h none. (let p = made_parts c y d h in one.at_end c p.0 d p.1 none);
  }

-- a given value, from no line
pub below_pure : {A : Type 0} (x : A) → ReadsBelow (λ c. Ok (x, c)) (λ y ls rest. (x ≡ y) × (ls ≡ rest))
below_pure {A} x = record {
  sound = λ c y d e. (let same : (x, c) ≡ (y, d) = sym (ok_value (x, c) (y, d) e) in (ap (λ (q : A × Reading). q.0) same, ap (λ (q : A × Reading). q.1.later) same));
  complete = λ c y rest h. (c, ap (λ (z : A). Ok (z, c)) h.0, h.1);
  at_end = λ c y d e none. ap (λ (q : A × Reading). q.1.current.tokens) (ok_value (x, c) (y, d) e) ∙ none;
}

-- n lines of one form
module _ {A : Type 0} (Form : Line → A → Type 0) where
  abbrev pub IsLine : Below A
  IsLine x ls rest = (l : Line) × (ls ≡ l ∷ rest) × Form l x

  abbrev pub AreLines : ℕ → Below (List A)
  AreLines n xs ls rest = (lines : List Line) × (ls ≡ lines ++ rest) × AllZip Form lines xs × (length xs ≡ n)

  no_lines : (xs : List A) (ls rest : List Line) → AreLines 0 xs ls rest → ([] ≡ xs) × (ls ≡ rest)
  no_lines [] ls rest ([], split, z, many) = (refl, split)
  no_lines [] ls rest (l ∷ lines, split, z, many) = absurd z
  no_lines (x ∷ xs) ls rest (lines, split, z, many) = absurd cc

  one_line : (n : ℕ) (xs : List A) (ls rest : List Line) → AreLines (suc n) xs ls rest → (y : A) × (ys : List A) × (middle : List Line) × (y ∷ ys ≡ xs) × IsLine y ls middle × AreLines n ys middle rest
  one_line n [] ls rest (lines, split, z, many) = absurd cc
  one_line n (x ∷ xs) ls rest ([], split, z, many) = absurd z
  one_line n (x ∷ xs) ls rest (l ∷ lines, split, z, many) = (x, xs, lines ++ rest, refl, (l, split, z.0), (lines, refl, z.1, cc))

  pub below_none : ReadsBelow (λ c. Ok ([], c)) (AreLines 0)
  below_none = below_as (λ c. Ok ([], c)) _ (AreLines 0) (λ xs ls rest h. subst (λ (ys : List A). AreLines 0 ys ls rest) h.0 ([], h.1, tt, refl)) no_lines (below_pure [])

  pub below_more : (n : ℕ) (r : Reader A) (s : Reader (List A)) → ReadsBelow r IsLine → ReadsBelow s (AreLines n) → ReadsBelow (join (λ x xs. x ∷ xs) r s) (AreLines (suc n))
  below_more n r s one more =
      below_as (join (λ x xs. x ∷ xs) r s) _ (AreLines (suc n))
      (λ xs ls rest (y, ys, middle, same, (l, split, h), (lines, t, z, many)). subst (λ (zs : List A). AreLines (suc n) zs ls rest) same (l ∷ lines, split ∙ ap (λ (ks : List Line). l ∷ ks) t, (h, z), ap suc many))
      (one_line n) (below_join (λ x xs. x ∷ xs) r s IsLine (AreLines n) one more)
