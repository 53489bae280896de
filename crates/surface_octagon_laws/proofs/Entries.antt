-- Vectors in octagon, standard and quad-octagon coordinates, entry by entry.
use Rattle.std.proofs.Common.{◌≡◌, ℕ, zero, suc, ◌+◌, ◌-◌, ◌*◌, ◌/◌, ◌%◌, ◌<◌, ◌≤◌, not, List, ◌++◌, length, map, flat_map, refl, sym, ap, ◌∙◌, arith, ext_get_or}
use Rattle.std.specs.Prelude.{◌==◌, sum_by, slice_index}
use Rattle.table_definitions.specs.Lists.{below}
use Rattle.table_definitions.specs.Permutation.{four}
use Rattle.table_definitions.proofs.Listed.{filter-among, below-among}
use Rattle.table_definitions.proofs.TableLaws.{Among}
use Rattle.surface_definitions.specs.Coordinates.{tri_column, quad_column, oct_column, three}
use Rattle.surface_definitions.specs.declared.Coords.TheVariants.{Standard, Octagon}
use Rattle.surface_definitions.specs.Lift.{projected}
use Rattle.surface_laws.proofs.Counting.{sum_by_same}
use Rattle.surface_laws.proofs.Quads.{projected_at, length-projected}
use Rattle.surface_quad_laws.proofs.LinkSums.{by_column}
use Rattle.surface_octagon_laws.specs.QuadOctagons.{quad_entry, octagon_entry, quads_and_octagons, other_types, quads_at, quads_for_octagons, HasQuadsForOctagons}
use Rattle.surface_octagon_laws.proofs.Blocks.{block-at, length-blocks}

pub other_below : (k j : ℕ) → Among j (other_types k) → j < 3
other_below k j a = below-among j 3 (filter-among (λ i. not (i == k)) j three a).0

-- the quads and octagons of one tetrahedron
abbrev block : List ℕ → ℕ → List ℕ
block ys t = map (λ k. slice_index ys (quad_column Octagon t k)) three ++ map (λ k. slice_index ys (oct_column Octagon t k)) three

in_block : (ys : List ℕ) (t j : ℕ) → j < 6 → slice_index (block ys t) j ≡ slice_index ys (10 * t + 4 + j)
in_block ys t zero l = refl
in_block ys t (suc zero) l = refl
in_block ys t (suc (suc zero)) l = refl
in_block ys t (suc (suc (suc zero))) l = let e : oct_column Octagon t 0 ≡ 10 * t + 4 + 3 = omega arith in ap (slice_index ys) e
in_block ys t (suc (suc (suc (suc zero)))) l = let e : oct_column Octagon t 1 ≡ 10 * t + 4 + 4 = omega arith in ap (slice_index ys) e
in_block ys t (suc (suc (suc (suc (suc zero))))) l = let e : oct_column Octagon t 2 ≡ 10 * t + 4 + 5 = omega arith in ap (slice_index ys) e
in_block ys t (suc (suc (suc (suc (suc (suc j)))))) l = absurd (omega arith)

pub entry-at : (n : ℕ) (ys : List ℕ) (t j : ℕ) → t < n → j < 6 → slice_index (quads_and_octagons n ys) (6 * t + j) ≡ slice_index ys (10 * t + 4 + j)
entry-at n ys t j lt lj = block-at 6 (block ys) (λ t. refl) n t j lt lj ∙ in_block ys t j lj

pub length-entries : (n : ℕ) (ys : List ℕ) → length (quads_and_octagons n ys) ≡ 6 * n
length-entries n ys = length-blocks 6 (block ys) (λ t. refl) n

octagon-at : (n : ℕ) (ys : List ℕ) (t j : ℕ) → t < n → j < 3 → slice_index (quads_and_octagons n ys) (octagon_entry t j) ≡ slice_index ys (oct_column Octagon t j)
octagon-at n ys t j lt lj =
    let i : octagon_entry t j ≡ 6 * t + (3 + j) = omega arith in
    let o : 10 * t + 4 + (3 + j) ≡ oct_column Octagon t j = omega arith in
    ap (slice_index (quads_and_octagons n ys)) i ∙ entry-at n ys t (3 + j) lt (omega arith) ∙ ap (slice_index ys) o

-- quads in place of octagons
in_three : (f : ℕ → ℕ) (k : ℕ) → k < 3 → slice_index (map f three) k ≡ f k
in_three f zero l = refl
in_three f (suc zero) l = refl
in_three f (suc (suc zero)) l = refl
in_three f (suc (suc (suc k))) l = absurd (omega arith)

pub quads-at : (n : ℕ) (xs : List ℕ) (t k : ℕ) → t < n → k < 3 → slice_index (quads_for_octagons n xs) (3 * t + k) ≡ quads_at xs t k
quads-at n xs t k lt lk = block-at 3 (λ t. map (quads_at xs t) three) (λ t. refl) n t k lt lk ∙ in_three (quads_at xs t) k lk

pub length-quads : (n : ℕ) (xs : List ℕ) → length (quads_for_octagons n xs) ≡ 3 * n
length-quads n xs = length-blocks 3 (λ t. map (quads_at xs t) three) (λ t. refl) n

-- the quads of a tetrahedron in octagon coordinates, if each octagon there is replaced by two quads
abbrev quads_in : List ℕ → ℕ → ℕ → ℕ
quads_in ys t k = slice_index ys (quad_column Octagon t k) + sum_by (λ j. slice_index ys (oct_column Octagon t j)) (other_types k)

quads_in-at : (n : ℕ) (ys : List ℕ) (t k : ℕ) → t < n → k < 3 → quads_at (quads_and_octagons n ys) t k ≡ quads_in ys t k
quads_in-at n ys t k lt lk =
    let q : slice_index (quads_and_octagons n ys) (quad_entry t k) ≡ slice_index ys (quad_column Octagon t k) = entry-at n ys t k lt (omega arith) in
    let o : sum_by (λ j. slice_index (quads_and_octagons n ys) (octagon_entry t j)) (other_types k) ≡ sum_by (λ j. slice_index ys (oct_column Octagon t j)) (other_types k) =
    sum_by_same (λ j. slice_index (quads_and_octagons n ys) (octagon_entry t j)) (λ j. slice_index ys (oct_column Octagon t j)) (other_types k)
    (λ j a. octagon-at n ys t j lt (other_below k j a)) in
    λ i. q i + o i

-- so its quads are those of the standard vector
pub same_quads : (n : ℕ) (ys zs : List ℕ) → HasQuadsForOctagons n ys zs → projected n zs ≡ quads_for_octagons n (quads_and_octagons n ys)
same_quads n ys zs h = ext_get_or 0 (projected n zs) (quads_for_octagons n (quads_and_octagons n ys)) (length-projected zs n ∙ sym (length-quads n (quads_and_octagons n ys)))
    (λ i l. at i (let e : length (projected n zs) ≡ 3 * n = length-projected zs n in omega arith))
  where
    at : (i : ℕ) → i < 3 * n → slice_index (projected n zs) i ≡ slice_index (quads_for_octagons n (quads_and_octagons n ys)) i
    at i l =
        let t : ℕ = i / 3 in
        let k : ℕ = i % 3 in
        let lt : i / 3 < n = omega arith in
        let lk : i % 3 < 3 = omega arith in
        let whole : 3 * (i / 3) + i % 3 ≡ i = omega arith in
        ap (slice_index (projected n zs)) (sym whole) ∙ projected_at zs n t k lt lk ∙ h.quads t k lt lk ∙ sym (quads_in-at n ys t k lt lk)
        ∙ sym (quads-at n (quads_and_octagons n ys) t k lt lk) ∙ ap (slice_index (quads_for_octagons n (quads_and_octagons n ys))) whole

-- the standard vector with two quads for each octagon
abbrev standard_block : List ℕ → ℕ → List ℕ
standard_block ys t = map (λ v. slice_index ys (tri_column Octagon t v)) four ++ map (quads_in ys t) three

abbrev pub standard_of : ℕ → List ℕ → List ℕ
standard_of n ys = flat_map (standard_block ys) (below n)

first_four : (ys : List ℕ) (t v : ℕ) → v < 4 → slice_index (standard_block ys t) v ≡ slice_index ys (tri_column Octagon t v)
first_four ys t zero l = refl
first_four ys t (suc zero) l = refl
first_four ys t (suc (suc zero)) l = refl
first_four ys t (suc (suc (suc zero))) l = refl
first_four ys t (suc (suc (suc (suc v)))) l = absurd (omega arith)

last_three : (ys : List ℕ) (t k : ℕ) → k < 3 → slice_index (standard_block ys t) (4 + k) ≡ quads_in ys t k
last_three ys t zero l = refl
last_three ys t (suc zero) l = refl
last_three ys t (suc (suc zero)) l = refl
last_three ys t (suc (suc (suc k))) l = absurd (omega arith)

pub standard_is : (n : ℕ) (ys : List ℕ) → HasQuadsForOctagons n ys (standard_of n ys)
standard_is n ys = record {
  width = length-blocks 7 (standard_block ys) (λ t. refl) n;
  triangles = λ t v lt lv. block-at 7 (standard_block ys) (λ t. refl) n t v lt (omega arith) ∙ first_four ys t v lv;
  quads = λ t k lt lk. let i : quad_column Standard t k ≡ 7 * t + (4 + k) = omega arith in
      ap (slice_index (standard_of n ys)) i ∙ block-at 7 (standard_block ys) (λ t. refl) n t (4 + k) lt (omega arith) ∙ last_three ys t k lk;
}

-- the triangles of a standard vector with given quads and octagons
abbrev octagon_block : List ℕ → List ℕ → ℕ → List ℕ
octagon_block zs xs t = map (λ v. slice_index zs (tri_column Standard t v)) four ++ (map (λ k. slice_index xs (quad_entry t k)) three ++ map (λ k. slice_index xs (octagon_entry t k)) three)

abbrev pub joined : ℕ → List ℕ → List ℕ → List ℕ
joined n zs xs = flat_map (octagon_block zs xs) (below n)

pub length-joined : (n : ℕ) (zs xs : List ℕ) → length (joined n zs xs) ≡ 10 * n
length-joined n zs xs = length-blocks 10 (octagon_block zs xs) (λ t. refl) n

four_triangles : (zs xs : List ℕ) (t v : ℕ) → v < 4 → slice_index (octagon_block zs xs t) v ≡ slice_index zs (tri_column Standard t v)
four_triangles zs xs t zero l = refl
four_triangles zs xs t (suc zero) l = refl
four_triangles zs xs t (suc (suc zero)) l = refl
four_triangles zs xs t (suc (suc (suc zero))) l = refl
four_triangles zs xs t (suc (suc (suc (suc v)))) l = absurd (omega arith)

six_entries : (zs xs : List ℕ) (t j : ℕ) → j < 6 → slice_index (octagon_block zs xs t) (4 + j) ≡ slice_index xs (6 * t + j)
six_entries zs xs t zero l = refl
six_entries zs xs t (suc zero) l = refl
six_entries zs xs t (suc (suc zero)) l = refl
six_entries zs xs t (suc (suc (suc zero))) l = let e : octagon_entry t 0 ≡ 6 * t + 3 = omega arith in ap (slice_index xs) e
six_entries zs xs t (suc (suc (suc (suc zero)))) l = let e : octagon_entry t 1 ≡ 6 * t + 4 = omega arith in ap (slice_index xs) e
six_entries zs xs t (suc (suc (suc (suc (suc zero))))) l = let e : octagon_entry t 2 ≡ 6 * t + 5 = omega arith in ap (slice_index xs) e
six_entries zs xs t (suc (suc (suc (suc (suc (suc j)))))) l = absurd (omega arith)

pub triangle-joined : (n : ℕ) (zs xs : List ℕ) (t v : ℕ) → t < n → v < 4 → slice_index (joined n zs xs) (tri_column Octagon t v) ≡ slice_index zs (tri_column Standard t v)
triangle-joined n zs xs t v lt lv = block-at 10 (octagon_block zs xs) (λ t. refl) n t v lt (omega arith) ∙ four_triangles zs xs t v lv

pub entry-joined : (n : ℕ) (zs xs : List ℕ) (t j : ℕ) → t < n → j < 6 → slice_index (joined n zs xs) (10 * t + 4 + j) ≡ slice_index xs (6 * t + j)
entry-joined n zs xs t j lt lj =
    let i : 10 * t + 4 + j ≡ 10 * t + (4 + j) = omega arith in
    ap (slice_index (joined n zs xs)) i ∙ block-at 10 (octagon_block zs xs) (λ t. refl) n t (4 + j) lt (omega arith) ∙ six_entries zs xs t j lj

-- it has these quads and octagons
pub joined-entries : (n : ℕ) (zs xs : List ℕ) → length xs ≡ 6 * n → quads_and_octagons n (joined n zs xs) ≡ xs
joined-entries n zs xs w = ext_get_or 0 (quads_and_octagons n (joined n zs xs)) xs (length-entries n (joined n zs xs) ∙ sym w)
    (λ i l. at i (let e : length (quads_and_octagons n (joined n zs xs)) ≡ 6 * n = length-entries n (joined n zs xs) in omega arith))
  where
    at : (i : ℕ) → i < 6 * n → slice_index (quads_and_octagons n (joined n zs xs)) i ≡ slice_index xs i
    at i l =
        let lt : i / 6 < n = omega arith in
        let lj : i % 6 < 6 = omega arith in
        let whole : 6 * (i / 6) + i % 6 ≡ i = omega arith in
        ap (slice_index (quads_and_octagons n (joined n zs xs))) (sym whole) ∙ entry-at n (joined n zs xs) (i / 6) (i % 6) lt lj
        ∙ entry-joined n zs xs (i / 6) (i % 6) lt lj ∙ ap (slice_index xs) whole

-- the octagon vector becomes the standard vector, if the standard vector has their quads
pub joined_is : (n : ℕ) (zs xs : List ℕ) → length zs ≡ 7 * n → length xs ≡ 6 * n → projected n zs ≡ quads_for_octagons n xs → HasQuadsForOctagons n (joined n zs xs) zs
joined_is n zs xs w v e = record {
  width = w;
  triangles = λ t v lt lv. sym (triangle-joined n zs xs t v lt lv);
  quads = λ t k lt lk. sym (projected_at zs n t k lt lk) ∙ ap (λ us. slice_index us (3 * t + k)) e ∙ quads-at n xs t k lt lk
      ∙ ap (λ us. quads_at us t k) (sym (joined-entries n zs xs v)) ∙ quads_in-at n (joined n zs xs) t k lt lk;
}

-- octagon vectors with the same triangles, quads and octagons are equal
pub same_vector : (n : ℕ) (ys ws : List ℕ) → length ys ≡ 10 * n → length ws ≡ 10 * n
    → ((t v : ℕ) → t < n → v < 4 → slice_index ys (tri_column Octagon t v) ≡ slice_index ws (tri_column Octagon t v)) → quads_and_octagons n ys ≡ quads_and_octagons n ws → ys ≡ ws
same_vector n ys ws wy ww triangles e = ext_get_or 0 ys ws (wy ∙ sym ww) (λ i l. by_column Octagon tt n (λ i. slice_index ys i ≡ slice_index ws i) triangles rest i (omega (arith, wy)))
  where
    rest : (i : ℕ) → i < 10 * n → 4 ≤ i % 10 → slice_index ys i ≡ slice_index ws i
    rest i l high =
        let t : ℕ = i / 10 in
        let j : ℕ = i % 10 - 4 in
        let lt : i / 10 < n = omega arith in
        let lj : i % 10 - 4 < 6 = omega arith in
        let at : 10 * (i / 10) + 4 + (i % 10 - 4) ≡ i = omega arith in
        ap (slice_index ys) (sym at) ∙ sym (entry-at n ys t j lt lj) ∙ ap (λ us. slice_index us (6 * t + j)) e ∙ entry-at n ws t j lt lj ∙ ap (slice_index ws) at
