-- names of documents, compared part by part
use Rattle.std.proofs.Common.{◌≡◌, ◌≢◌, ◌∙◌, true, false, Ordering, Less, Equal, Greater, refl, sym, ap}
use Rattle.std.specs.Cmp.Lexicographic.{slice_cmp}
use Rattle.std.specs.Ordering.{ordering_then, nat_cmp, is_ne}
use Rattle.document_keys.specs.Order.{Ranks}
use Rattle.document_keys.proofs.Order.{ranks_from}
use Rattle.value_model.specs.declared.reference.RefName.{RefName}
use Rattle.value_model.specs.Order.{whole_path}
use Rattle.value_model.proofs.Scalars.{decided}

-- a test for a difference
pub differ : (o : Ordering) → is_ne o ≡ true → o ≢ Equal
differ Less test e = cc
differ Equal test e = cc
differ Greater test e = cc

pub same : (o : Ordering) → is_ne o ≡ false → o ≡ Equal
same Less test = cc
same Equal test = refl
same Greater test = cc

module _ (r s : RefName) where
  pub project_decides : (o : Ordering) → o ≡ slice_cmp nat_cmp r.project s.project → o ≢ Equal → Ranks o (whole_path r) (whole_path s)
  project_decides o is apart =
      ranks_from (whole_path r) (whole_path s) o (sym (ap (λ k. ordering_then k (ordering_then (slice_cmp nat_cmp r.database s.database) (slice_cmp (slice_cmp nat_cmp) r.key s.key))) (sym is)
      ∙ decided o (ordering_then (slice_cmp nat_cmp r.database s.database) (slice_cmp (slice_cmp nat_cmp) r.key s.key)) apart))

  pub database_decides : (p o : Ordering) → p ≡ slice_cmp nat_cmp r.project s.project → p ≡ Equal → o ≡ slice_cmp nat_cmp r.database s.database → o ≢ Equal → Ranks o (whole_path r) (whole_path s)
  database_decides p o at level is apart =
      ranks_from (whole_path r) (whole_path s) o (sym (ap (λ k. ordering_then k (ordering_then (slice_cmp nat_cmp r.database s.database) (slice_cmp (slice_cmp nat_cmp) r.key s.key))) (sym at ∙ level)
      ∙ ap (λ k. ordering_then k (slice_cmp (slice_cmp nat_cmp) r.key s.key)) (sym is)
      ∙ decided o (slice_cmp (slice_cmp nat_cmp) r.key s.key) apart))

  pub key_decides : (p q o : Ordering) → p ≡ slice_cmp nat_cmp r.project s.project → p ≡ Equal → q ≡ slice_cmp nat_cmp r.database s.database → q ≡ Equal → o ≡ slice_cmp (slice_cmp nat_cmp) r.key s.key → Ranks o (whole_path r) (whole_path s)
  key_decides p q o at level here tied is =
      ranks_from (whole_path r) (whole_path s) o (sym (ap (λ k. ordering_then k (ordering_then (slice_cmp nat_cmp r.database s.database) (slice_cmp (slice_cmp nat_cmp) r.key s.key))) (sym at ∙ level)
      ∙ ap (λ k. ordering_then k (slice_cmp (slice_cmp nat_cmp) r.key s.key)) (sym here ∙ tied)
      ∙ sym is))
