-- one masked path after another
use Rattle.std.proofs.Common.{◌≡◌, ◌≢◌, ◌∙◌, ◌⊎◌, inl, inr, ℕ, zero, suc, ◌+◌, ◌<◌, ◌≤◌, Ordering, Less, Equal, Greater, Option, Some, None, List, [], ◌∷◌, ◌++◌, length, get_or, take, option_and_then, refl, sym, ap, subst, append_assoc, arith}
use Rattle.std.specs.Prelude.{IsSome}
use Rattle.std.specs.Cmp.Lexicographic.{slice_cmp}
use Rattle.std.specs.List.{Contains}
use Rattle.std.specs.Ordering.{nat_cmp}
use Rattle.std.proofs.lemmas.List.{take_more, take_all}
use Rattle.std.proofs.lemmas.List.Elements.{Contains-append_left, Contains-append_right, Contains-append_cases}
use Rattle.document_keys.proofs.Order.{texts_compute}
use Rattle.value_model.specs.Changes.{with_value_at, without_value_at}
use Rattle.value_model.specs.Data.{Data, Entries, map_of}
use Rattle.value_model.specs.Laws.{IsMap}
use Rattle.value_model.specs.Paths.{value_at, value_in, member_at}
use Rattle.value_model.proofs.Lookups.{path_laws}
use Rattle.value_model.proofs.Places.{compared_same}
use Rattle.mutations.specs.Masks.{Extends, LeadsTo, PartsFrom, IsMasked, IsAboveMask, IsFilledBelow, Masked, TakesOver}

-- ---- how a path stands to another

pub name_cases : (m n : List ℕ) → (n ≡ m) ⊎ (n ≢ m)
name_cases m n = by (slice_cmp nat_cmp n m) refl
  where
    by : (o : Ordering) → slice_cmp nat_cmp n m ≡ o → (n ≡ m) ⊎ (n ≢ m)
    by Equal is = inl (texts_compute.exact n m is)
    by Less is = inr (λ same. let tied = compared_same m n (sym same) in cc (tied, is))
    by Greater is = inr (λ same. let tied = compared_same m n (sym same) in cc (tied, is))

pub path_cases : (path other : List (List ℕ)) → Extends other path ⊎ (LeadsTo other path ⊎ PartsFrom path other)
path_cases [] other = inl (other, refl)
path_cases (m ∷ path) [] = inr (inl (m, path, refl))
path_cases (m ∷ path) (n ∷ other) = by (name_cases m n) (path_cases path other)
  where
    by : (n ≡ m) ⊎ (n ≢ m) → Extends other path ⊎ (LeadsTo other path ⊎ PartsFrom path other) → Extends (n ∷ other) (m ∷ path) ⊎ (LeadsTo (n ∷ other) (m ∷ path) ⊎ PartsFrom (m ∷ path) (n ∷ other))
    by (inl same) (inl extends) = inl (extends.0, λ i. same i ∷ extends.1 i)
    by (inl same) (inr (inl leads)) = inr (inl (leads.0, leads.1, λ i. sym same i ∷ leads.2 i))
    by (inl same) (inr (inr parts)) = inr (inr (record {
      shared = m ∷ parts.shared;
      name = parts.name;
      next = parts.next;
      other_name = parts.other_name;
      other_next = parts.other_next;
      here = ap (λ p. m ∷ p) parts.here;
      there = λ i. same i ∷ parts.there i;
      apart = parts.apart;
    }))
    by (inr apart) rest = inr (inr (record { shared = []; name = m; next = path; other_name = n; other_next = other; here = refl; there = refl; apart = apart }))

-- ---- one path

and_then_assoc : (o : Option Data) (name : List ℕ) (p q : List (List ℕ)) → ((d : Data) → value_in d (p ++ q) ≡ option_and_then (λ x. value_in x q) (value_in d p)) → option_and_then (λ d. value_in d (p ++ q)) o ≡ option_and_then (λ x. value_in x q) (option_and_then (λ d. value_in d p) o)
and_then_assoc None name p q inner = refl
and_then_assoc (Some d) name p q inner = inner d

pub further_in : (d : Data) (p q : List (List ℕ)) → value_in d (p ++ q) ≡ option_and_then (λ x. value_in x q) (value_in d p)
further_in d [] q = refl
further_in d (n ∷ p) q = and_then_assoc (member_at d n) n p q (λ inner. further_in inner p q)

module _ (old input new : Entries) (path : List (List ℕ)) where
  put_beside : (value : Data) → new ≡ with_value_at old path value → (other : List (List ℕ)) → PartsFrom path other → value_at new other ≡ value_at old other
  put_beside value is other parts =
      let at : new ≡ with_value_at old (parts.shared ++ parts.name ∷ parts.next) value = is ∙ ap (λ p. with_value_at old p value) parts.here in
      subst (λ o. value_at new o ≡ value_at old o) (sym parts.there)
      (ap (λ f. value_at f (parts.shared ++ parts.other_name ∷ parts.other_next)) at
      ∙ path_laws.put_apart old parts.shared parts.name parts.other_name parts.next parts.other_next value parts.apart)

  removed_beside : new ≡ without_value_at old path → (other : List (List ℕ)) → PartsFrom path other → value_at new other ≡ value_at old other
  removed_beside is other parts =
      let at : new ≡ without_value_at old (parts.shared ++ parts.name ∷ parts.next) = is ∙ ap (without_value_at old) parts.here in
      subst (λ o. value_at new o ≡ value_at old o) (sym parts.there)
      (ap (λ f. value_at f (parts.shared ++ parts.other_name ∷ parts.other_next)) at
      ∙ path_laws.removed_apart old parts.shared parts.name parts.other_name parts.next parts.other_next parts.apart)

  put_above : (value : Data) → new ≡ with_value_at old path value → (above : List (List ℕ)) → LeadsTo above path → IsMap (value_at new above)
  put_above value is above leads =
      subst (λ f. IsMap (value_at f above)) (sym (is ∙ ap (λ p. with_value_at old p value) leads.2))
      (path_laws.put_above old above leads.0 leads.1 value)

  pub put_takes : (value : Data) → 0 < length path → value_at input path ≡ Some value → new ≡ with_value_at old path value → (value_at old path ≡ Some value → new ≡ old) → TakesOver old input path new
  put_takes value long told is same = record {
    inside = λ names. subst (λ f. value_at f (path ++ names) ≡ value_at input (path ++ names)) (sym is) (put_inside path names long ∙ sym (further_in (map_of input) path names ∙ ap (option_and_then (λ x. value_in x names)) told));
    made = λ above leads some. put_above value is above leads;
    maps = λ above leads map. put_above value is above leads;
    left = λ above leads none map. absurd (none (subst IsSome (sym told) refl));
    beside = put_beside value is;
    same = λ agrees. same (agrees ∙ told);
  }
    where
      put_inside : (p names : List (List ℕ)) → 0 < length p → value_at (with_value_at old p value) (p ++ names) ≡ value_in value names
      put_inside [] names long = absurd (omega arith)
      put_inside (n ∷ p) names long = path_laws.put_below old n p names value

  pub removed_takes : value_at input path ≡ None → new ≡ without_value_at old path → value_at new path ≡ None → (value_at old path ≡ None → new ≡ old) → TakesOver old input path new
  removed_takes told is gone missing = record {
    inside = λ names. further_in (map_of new) path names ∙ ap (option_and_then (λ x. value_in x names)) (gone ∙ sym told) ∙ sym (further_in (map_of input) path names);
    made = λ above leads some. absurd (let no : IsSome {T = Data} None = subst IsSome told some in cc);
    maps = λ above leads map. subst (λ f. IsMap (value_at f above)) (sym (is ∙ ap (without_value_at old) leads.2)) (path_laws.removed_maps old above leads.0 leads.1 map);
    left = λ above leads none map. subst (λ f. value_at f above ≡ value_at old above) (sym (is ∙ ap (without_value_at old) leads.2)) (path_laws.removed_others old above leads.0 leads.1 map);
    beside = removed_beside is;
    same = λ agrees. missing (agrees ∙ told);
  }

-- ---- one path more

no_item : (path : List (List ℕ)) → ¬ (Contains [] path)
no_item path there = let below = there.1 in omega arith

pub none_taken : (old input : Entries) → Masked old input [] old
none_taken old input = record {
  masked = λ path is. absurd (no_item is.0 is.1);
  made = λ path not is. absurd (no_item is.0 is.1);
  maps = λ path not map. map;
  left = λ path not none map. refl;
  elsewhere = λ path not above. refl;
}

module _ (old input was now : Entries) (seen seen' : List (List (List ℕ))) (path : List (List ℕ)) (splits : (p : List (List ℕ)) → Contains seen' p → Contains seen p ⊎ (p ≡ path)) (keeps : (p : List (List ℕ)) → Contains seen p → Contains seen' p) (new : Contains seen' path) (before : Masked old input seen was) (step : TakesOver was input path now) where
  unmasked : (q : List (List ℕ)) → ¬ (IsMasked seen' q) → ¬ (IsMasked seen q)
  unmasked q not masked = not (masked.0, keeps masked.0 masked.1, masked.2)

  at_path : (q : List (List ℕ)) → Extends q path → value_at now q ≡ value_at input q
  at_path q extends = subst (λ p. value_at now p ≡ value_at input p) (sym extends.1) (step.inside extends.0)

  masked_on : (q : List (List ℕ)) (masked : List (List ℕ)) → Extends q masked → Contains seen masked ⊎ (masked ≡ path) → value_at now q ≡ value_at input q
  masked_on q masked extends (inr same) = at_path q (subst (Extends q) same extends)
  masked_on q masked extends (inl there) = elim (path_cases path q) [
    | inl inside ↦ at_path q inside
    | inr (inl leads) ↦
        let further : Extends path masked = (extends.0 ++ leads.0 ∷ leads.1, leads.2 ∙ ap (λ p. p ++ leads.0 ∷ leads.1) extends.1 ∙ append_assoc masked extends.0 (leads.0 ∷ leads.1)) in
        let agrees : value_at was path ≡ value_at input path = before.masked path (masked, there, further) in
        ap (λ f. value_at f q) (step.same agrees) ∙ before.masked q (masked, there, extends)
    | inr (inr parts) ↦ step.beside q parts ∙ before.masked q (masked, there, extends)
  ]

  still_map : (q : List (List ℕ)) → ¬ (IsMasked seen' q) → IsMap (value_at was q) → IsMap (value_at now q)
  still_map q not map = elim (path_cases path q) [
    | inl inside ↦ absurd (not (path, new, inside))
    | inr (inl leads) ↦ step.maps q leads map
    | inr (inr parts) ↦ subst IsMap (sym (step.beside q parts)) map
  ]

  made_on : (q : List (List ℕ)) (masked : List (List ℕ)) → ¬ (IsMasked seen' q) → LeadsTo q masked → IsSome (value_at input masked) → Contains seen masked ⊎ (masked ≡ path) → IsMap (value_at now q)
  made_on q masked not leads some (inr same) = step.made q (subst (LeadsTo q) same leads) (subst (λ p. IsSome (value_at input p)) same some)
  made_on q masked not leads some (inl there) = still_map q not (before.made q (unmasked q not) (masked, there, leads, some))

  left_on : (q : List (List ℕ)) → ¬ (IsMasked seen' q) → ¬ (IsFilledBelow input seen' q) → ¬ (IsMap (value_at old q)) → value_at now q ≡ value_at old q
  left_on q not unfilled map =
      let stays : value_at was q ≡ value_at old q = before.left q (unmasked q not) (λ filled. unfilled (filled.0, keeps filled.0 filled.1, filled.2, filled.3)) map in
      elim (path_cases path q) [
        | inl inside ↦ absurd (not (path, new, inside))
        | inr (inl leads) ↦ step.left q leads (λ some. unfilled (path, new, leads, some)) (λ is. map (subst IsMap stays is)) ∙ stays
        | inr (inr parts) ↦ step.beside q parts ∙ stays
      ]

  elsewhere_on : (q : List (List ℕ)) → ¬ (IsMasked seen' q) → ¬ (IsAboveMask seen' q) → value_at now q ≡ value_at old q
  elsewhere_on q not above =
      let stays : value_at was q ≡ value_at old q = before.elsewhere q (unmasked q not) (λ is. above (is.0, keeps is.0 is.1, is.2)) in
      elim (path_cases path q) [
        | inl inside ↦ absurd (not (path, new, inside))
        | inr (inl leads) ↦ absurd (above (path, new, leads))
        | inr (inr parts) ↦ step.beside q parts ∙ stays
      ]

  pub one_more : Masked old input seen' now
  one_more = record {
    masked = λ q is. masked_on q is.0 is.2 (splits is.0 is.1);
    made = λ q not is. made_on q is.0 not is.2 is.3 (splits is.0 is.1);
    maps = λ q not map. still_map q not (before.maps q (unmasked q not) map);
    left = left_on;
    elsewhere = elsewhere_on;
  }

one_item : (x y : List (List ℕ)) → Contains (x ∷ []) y → y ≡ x
one_item x y there = at there.0 there.1 there.2
  where
    at : (k : ℕ) → k < 1 → get_or (x ∷ []) k y ≡ y → y ≡ x
    at zero below is = sym is
    at (suc k) below is = absurd (omega arith)

-- the mask so far, with the next path
pub mask_step : (old input was now : Entries) (mask : List (List (List ℕ))) (i : ℕ) (path : List (List ℕ)) → i < length mask → path ≡ get_or mask i path → Masked old input (take i mask) was → TakesOver was input path now → Masked old input (take (i + 1) mask) now
mask_step old input was now mask i path below is before step =
    let more : take (i + 1) mask ≡ take i mask ++ path ∷ [] = take_more mask i path below ∙ ap (λ p. take i mask ++ p ∷ []) (sym is) in
    subst (λ seen. Masked old input seen now) (sym more)
    (one_more old input was now (take i mask) (take i mask ++ path ∷ []) path
    (λ p there. elim (Contains-append_cases (take i mask) (path ∷ []) p there) [ inl front ↦ inl front | inr last ↦ inr (one_item path p last) ])
    (λ p there. Contains-append_left (take i mask) (path ∷ []) p there)
    (Contains-append_right (take i mask) (path ∷ []) path (0, omega arith, refl))
    before step)

pub mask_end : (old input now : Entries) (mask : List (List (List ℕ))) (i : ℕ) → length mask ≤ i → Masked old input (take i mask) now → Masked old input mask now
mask_end old input now mask i past all = subst (λ seen. Masked old input seen now) (take_all i mask past) all
