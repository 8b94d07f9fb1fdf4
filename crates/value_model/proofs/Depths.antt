-- depths of the values that a loop has seen
use Rattle.std.proofs.Common.{◌≡◌, ℕ, zero, suc, ◌+◌, ◌<◌, ◌≤◌, List, [], ◌∷◌, length, get_or, take, sym, subst, add-one, arith}
use Rattle.value_model.specs.declared.fields.Field.{Field}
use Rattle.value_model.specs.Data.{Data, depth, items_depth, items_of, entries_depth}
use Rattle.value_model.specs.Named.{fields_data}
use Rattle.value_model.proofs.Parts.{item_depth}

items_more : (ds : List Data) (i : ℕ) (d : Data) (n : ℕ) → i < length ds → depth (get_or ds i d) ≤ n → items_depth (items_of (take i ds)) ≤ n → items_depth (items_of (take (suc i) ds)) ≤ n
items_more [] i d n below one all = absurd (omega arith)
items_more (x ∷ ds) zero d n below one all = omega arith
items_more (x ∷ ds) (suc i) d n below one all = let rest = items_more ds i d n (omega arith) one (omega arith) in omega arith

fields_more : (fields : List Field) (i : ℕ) (d : Field) (n : ℕ) → i < length fields → depth (get_or fields i d).value ≤ n → entries_depth (fields_data (take i fields)) ≤ n → entries_depth (fields_data (take (suc i) fields)) ≤ n
fields_more [] i d n below one all = absurd (omega arith)
fields_more (x ∷ fields) zero d n below one all = omega arith
fields_more (x ∷ fields) (suc i) d n below one all = let rest = fields_more fields i d n (omega arith) one (omega arith) in omega arith

field_depth : (fields : List Field) (i : ℕ) (d : Field) → i < length fields → depth (get_or fields i d).value ≤ entries_depth (fields_data fields)
field_depth [] i d below = absurd (omega arith)
field_depth (x ∷ fields) zero d below = omega arith
field_depth (x ∷ fields) (suc i) d below = let rest = field_depth fields i d (omega arith) in omega arith

pub values_on : (ds : List Data) (i : ℕ) (d : Data) (n : ℕ) → i < length ds → d ≡ get_or ds i d → depth d ≤ n → items_depth (items_of (take i ds)) ≤ n → items_depth (items_of (take (i + 1) ds)) ≤ n
values_on ds i d n below is one all = rw add-one (items_more ds i d n below (subst (λ e. depth e ≤ n) is one) all)

pub values_out : (ds : List Data) (i : ℕ) (d : Data) (n : ℕ) → i < length ds → d ≡ get_or ds i d → items_depth (items_of ds) ≤ n → depth d ≤ n
values_out ds i d n below is all = let part = item_depth ds i d below in subst (λ e. depth e ≤ n) (sym is) (omega arith)

pub fields_on : (fields : List Field) (i : ℕ) (d : Field) (n : ℕ) → i < length fields → d ≡ get_or fields i d → depth d.value ≤ n → entries_depth (fields_data (take i fields)) ≤ n → entries_depth (fields_data (take (i + 1) fields)) ≤ n
fields_on fields i d n below is one all = rw add-one (fields_more fields i d n below (subst (λ e. depth e.value ≤ n) is one) all)

pub fields_out : (fields : List Field) (i : ℕ) (d : Field) (n : ℕ) → i < length fields → d ≡ get_or fields i d → entries_depth (fields_data fields) ≤ n → depth d.value ≤ n
fields_out fields i d n below is all = let part = field_depth fields i d below in subst (λ e. depth e.value ≤ n) (sym is) (omega arith)
