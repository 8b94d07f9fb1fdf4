-- a loop that changes each element of a list at its place
use Rattle.std.proofs.Common.{◌≡◌, ◌∙◌, inl, inr, ℕ, ◌+◌, ◌<◌, ◌≤◌, List, length, get_or, set, refl, sym, subst, arith}
use Rattle.std.proofs.lemmas.Bool.{cases_eq}
use Rattle.std.proofs.lemmas.List.{get_or-set_same, get_or-set_other, get_or_default, length-set}
use Rattle.watch_aggregator.specs.declared.watched.Watched.{Watched}
use Rattle.watch_aggregator.specs.Steps.{IsEach}

-- the first i have been changed, each as R says, and the others not
pub record Along (R : Watched → Watched → Type 0) (old now : List Watched) (i : ℕ) : Type 0 where
  pub same_length : length now ≡ length old
  pub done : (k : ℕ) (d : Watched) → k < i → k < length old → R (get_or old k d) (get_or now k d)
  pub left : (k : ℕ) (d : Watched) → i ≤ k → get_or now k d ≡ get_or old k d

module _ (R : Watched → Watched → Type 0) where
  pub along_none : (ws : List Watched) → Along R ws ws 0
  along_none ws = record { same_length = refl; done = λ k d before inside. absurd (omega arith); left = λ k d from. refl }

  pub along_more : (old now : List Watched) (i : ℕ) (was new : Watched) → Along R old now i → i < length now → was ≡ get_or now i was → R was new → Along R old (set now i new) (i + 1)
  along_more old now i was new along inside at one = record {
    same_length = length-set now i new ∙ along.same_length;
    done = done;
    left = λ k d from. get_or-set_other now i k new d (let apart : k ≡ i → ⊥ = omega arith in apart) ∙ along.left k d (omega arith);
  }
    where
      here : (d : Watched) → R (get_or old i d) (get_or (set now i new) i d)
      here d =
          let before : was ≡ get_or old i d = at ∙ get_or_default now i was d inside ∙ along.left i d (omega arith) in
          subst (λ v. R v (get_or (set now i new) i d)) before (subst (R was) (sym (get_or-set_same now i new d inside)) one)

      done : (k : ℕ) (d : Watched) → k < i + 1 → k < length old → R (get_or old k d) (get_or (set now i new) k d)
      done k d before within = elim (cases_eq k i) [
        | inl same ↦ subst (λ n. R (get_or old n d) (get_or (set now i new) n d)) (sym same) (here d)
        | inr apart ↦ subst (R (get_or old k d)) (sym (get_or-set_other now i k new d apart)) (along.done k d (omega arith) within)
      ]

  pub along_all : (old now : List Watched) (i : ℕ) → Along R old now i → length old ≤ i → IsEach R old now
  along_all old now i along end = record { same_length = along.same_length; at = λ k d inside. along.done k d (omega arith) inside }
