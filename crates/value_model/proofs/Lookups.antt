-- what stands at paths of values with another at a path, and without one
use Rattle.std.proofs.Common.{◌≡◌, ◌≢◌, ◌∙◌, ℕ, Option, Some, None, List, [], ◌∷◌, ◌++◌, option_and_then, option_map, unwrap_or, refl, sym, ap, subst}
use Rattle.value_model.specs.Changes.{members_in, with_value, with_value_at, on_members, without_value_at}
use Rattle.value_model.specs.Data.{Data, null, map, Members, Entries, entries_of, map_of}
use Rattle.value_model.specs.Fields.{field, with_field, without_field}
use Rattle.value_model.specs.Laws.{IsMap, PathsHold}
use Rattle.value_model.specs.Paths.{value_in, value_at, member_at}
use Rattle.value_model.proofs.Mapped.{put_here, put_elsewhere, removed_elsewhere}
use Rattle.value_model.proofs.Parts.{entries_members, members_entries}
use Rattle.value_model.proofs.Removing.{at_first}

member_field : (d : Data) (n : List ℕ) → member_at d n ≡ field (members_in d) n
member_field (map ms) n = refl
member_field d n = refl

-- what stands at a path that begins with the name that was put
put_first : (es : Entries) (n : List ℕ) (x : Data) (q : List (List ℕ)) → value_in (map_of (with_field es n x)) (n ∷ q) ≡ value_in x q
put_first es n x q = at_first (with_field es n x) n q ∙ ap (option_and_then (λ d. value_in d q)) (put_here es n x)

put_other : (es : Entries) (m n : List ℕ) (x : Data) (q : List (List ℕ)) → n ≢ m → value_in (map_of (with_field es m x)) (n ∷ q) ≡ value_in (map_of es) (n ∷ q)
put_other es m n x q other = at_first (with_field es m x) n q ∙ ap (option_and_then (λ d. value_in d q)) (put_elsewhere es m x n other) ∙ sym (at_first es n q)

put_below : (d : Data) (p r : List (List ℕ)) (v : Data) → value_in (with_value d p v) (p ++ r) ≡ value_in v r
put_below d [] r v = refl
put_below d (n ∷ p) r v =
    put_first (members_in d) n (with_value (unwrap_or (field (members_in d) n) null) p v) (p ++ r)
    ∙ put_below (unwrap_or (field (members_in d) n) null) p r v

put_above : (d : Data) (q : List (List ℕ)) (n : List ℕ) (r : List (List ℕ)) (v : Data) → IsMap (value_in (with_value d (q ++ n ∷ r) v) q)
put_above d [] n r v = (with_field (members_in d) n (with_value (unwrap_or (field (members_in d) n) null) r v), refl)
put_above d (m ∷ q) n r v =
    let inner = unwrap_or (field (members_in d) m) null in
    subst IsMap (sym (put_first (members_in d) m (with_value inner (q ++ n ∷ r) v) q)) (put_above inner q n r v)

nothing_in_null : (s : List (List ℕ)) (n : List ℕ) (q : List (List ℕ)) → value_in null (s ++ n ∷ q) ≡ None
nothing_in_null [] n q = refl
nothing_in_null (k ∷ s) n q = refl

or_null_in : (o : Option Data) (s : List (List ℕ)) (n : List ℕ) (q : List (List ℕ)) → value_in (unwrap_or o null) (s ++ n ∷ q) ≡ option_and_then (λ d. value_in d (s ++ n ∷ q)) o
or_null_in None s n q = nothing_in_null s n q
or_null_in (Some d) s n q = refl

put_apart : (d : Data) (s : List (List ℕ)) (m n : List ℕ) (p q : List (List ℕ)) (v : Data) → n ≢ m → value_in (with_value d (s ++ m ∷ p) v) (s ++ n ∷ q) ≡ value_in d (s ++ n ∷ q)
put_apart d [] m n p q v other =
    put_other (members_in d) m n (with_value (unwrap_or (field (members_in d) m) null) p v) q other
    ∙ at_first (members_in d) n q
    ∙ ap (option_and_then (λ x. value_in x q)) (sym (member_field d n))
put_apart d (k ∷ s) m n p q v other =
    let inner = unwrap_or (field (members_in d) k) null in
    put_first (members_in d) k (with_value inner (s ++ m ∷ p) v) (s ++ n ∷ q)
    ∙ put_apart inner s m n p q v other
    ∙ or_null_in (field (members_in d) k) s n q
    ∙ ap (option_and_then (λ x. value_in x (s ++ n ∷ q))) (sym (member_field d k))

-- the fields of a whole are what its members are
whole_of : (es : Entries) (p : List (List ℕ)) (n : List ℕ) (v : Data) → map_of (with_value_at es (n ∷ p) v) ≡ with_value (map_of es) (n ∷ p) v
whole_of es p n v = ap map_of (entries_members (with_field (members_in (map_of es)) n (with_value (unwrap_or (field (members_in (map_of es)) n) null) p v)))

first_of_path : (q : List (List ℕ)) (n : List ℕ) (r : List (List ℕ)) (es : Entries) (v : Data) → map_of (with_value_at es (q ++ n ∷ r) v) ≡ with_value (map_of es) (q ++ n ∷ r) v
first_of_path [] n r es v = whole_of es r n v
first_of_path (m ∷ q) n r es v = whole_of es (q ++ n ∷ r) m v

-- ---- without what stands at a path

removed_deeper : (es : Entries) (k : List ℕ) (s : List (List ℕ)) (m : List ℕ) (p : List (List ℕ)) → without_value_at es (k ∷ (s ++ m ∷ p)) ≡ unwrap_or (option_map (λ d. with_field es k (on_members (λ inner. without_value_at inner (s ++ m ∷ p)) d)) (field es k)) es
removed_deeper es k [] m p = refl
removed_deeper es k (n ∷ s) m p = refl

map_whole : (ms : Members) (q : List (List ℕ)) → value_in (map ms) q ≡ value_at (entries_of ms) q
map_whole ms q = ap (λ l. value_in (map l) q) (sym (members_entries ms))

-- a relation of what stood and what stands, which holds of the same and wherever it holds inside a map
module _ (R : Option Data → Option Data → Type 0) (same : (o : Option Data) → R o o) (k : List ℕ) (s : List (List ℕ)) (m : List ℕ) (p q : List (List ℕ)) (inside : (es : Entries) → R (value_at es q) (value_at (without_value_at es (s ++ m ∷ p)) q)) where
  in_member : (d : Data) → R (value_in d q) (value_in (on_members (λ inner. without_value_at inner (s ++ m ∷ p)) d) q)
  in_member (map ms) = subst (λ o. R o (value_at (without_value_at (entries_of ms) (s ++ m ∷ p)) q)) (sym (map_whole ms q)) (inside (entries_of ms))
  in_member d = same (value_in d q)

  by_field : (es : Entries) (o : Option Data) → o ≡ field es k → R (value_at es (k ∷ q)) (value_at (unwrap_or (option_map (λ d. with_field es k (on_members (λ inner. without_value_at inner (s ++ m ∷ p)) d)) o) es) (k ∷ q))
  by_field es None is = same (value_at es (k ∷ q))
  by_field es (Some d) is =
      let was : value_in d q ≡ value_at es (k ∷ q) = ap (option_and_then (λ x. value_in x q)) is ∙ sym (at_first es k q) in
      let changed = on_members (λ inner. without_value_at inner (s ++ m ∷ p)) d in
      subst (λ o. R o (value_at (with_field es k changed) (k ∷ q))) was
      (subst (λ o. R (value_in d q) o) (sym (put_first es k changed q)) (in_member d))

  deeper : (es : Entries) → R (value_at es (k ∷ q)) (value_at (without_value_at es (k ∷ (s ++ m ∷ p))) (k ∷ q))
  deeper es = subst (λ l. R (value_at es (k ∷ q)) (value_at l (k ∷ q))) (sym (removed_deeper es k s m p)) (by_field es (field es k) refl)

removed_apart : (es : Entries) (s : List (List ℕ)) (m n : List ℕ) (p q : List (List ℕ)) → n ≢ m → value_at es (s ++ n ∷ q) ≡ value_at (without_value_at es (s ++ m ∷ p)) (s ++ n ∷ q)
removed_apart es [] m n [] q other =
    at_first es n q ∙ sym (at_first (without_field es m) n q ∙ ap (option_and_then (λ d. value_in d q)) (removed_elsewhere es m n other))
removed_apart es [] m n (next ∷ p) q other = by (field es m)
  where
    by : (o : Option Data) → value_at es (n ∷ q) ≡ value_at (unwrap_or (option_map (λ d. with_field es m (on_members (λ inner. without_value_at inner (next ∷ p)) d)) o) es) (n ∷ q)
    by None = refl
    by (Some d) = sym (put_other es m n (on_members (λ inner. without_value_at inner (next ∷ p)) d) q other)
removed_apart es (k ∷ s) m n p q other = deeper (λ a b. a ≡ b) (λ o. refl) k s m p (s ++ n ∷ q) (λ inner. removed_apart inner s m n p q other) es

-- what stood above a path stays what it was, and a map stays a map
record StaysAbove (was now : Option Data) : Type 0 where
  pub maps : IsMap was → IsMap now
  pub others : ¬ (IsMap was) → now ≡ was

removed_above : (es : Entries) (q : List (List ℕ)) (n : List ℕ) (r : List (List ℕ)) → StaysAbove (value_at es q) (value_at (without_value_at es (q ++ n ∷ r)) q)
removed_above es [] n r = record { maps = λ was. (without_value_at es (n ∷ r), refl); others = λ not. absurd (not (es, refl)) }
removed_above es (k ∷ q) n r = deeper StaysAbove (λ o. record { maps = λ was. was; others = λ not. refl }) k q n r q (λ inner. removed_above inner q n r) es

pub path_laws : PathsHold
path_laws = record {
  put_below = λ es n p r v. ap (λ d. value_in d ((n ∷ p) ++ r)) (whole_of es p n v) ∙ put_below (map_of es) (n ∷ p) r v;
  put_above = λ es q n r v. subst (λ d. IsMap (value_in d q)) (sym (first_of_path q n r es v)) (put_above (map_of es) q n r v);
  put_apart = λ es s m n p q v other. ap (λ d. value_in d (s ++ n ∷ q)) (first_of_path s m p es v) ∙ put_apart (map_of es) s m n p q v other;
  removed_maps = λ es q n r. let above = removed_above es q n r in above.maps;
  removed_others = λ es q n r. let above = removed_above es q n r in above.others;
  removed_apart = λ es s m n p q other. sym (removed_apart es s m n p q other);
}
