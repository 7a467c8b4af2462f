-- Tests of a document's keys and values, by the lists of the code.
use Rattle.std.proofs.Common.{◌≡◌, ℕ, Bool, List, [], ◌∷◌, ◌||◌, ◌&&◌, Option, Some, None, refl, ap, string_bytes, true, false, sym, ◌∙◌, codes, Vec, Global}
use Rattle.std.specs.List.{list_any, list_all, filter_map, cons_option}
use Rattle.std.specs.Map.{keys_of as entry_keys}
use Rattle.std.specs.Option.{option_map_or}
use Rattle.toml.specs.Data.{Data, Members, as_table, get_member}
use Rattle.toml.specs.View.{view, items_view, members_view}
use Rattle.toml.specs.declared.value.Value.{Value, Array}
use Rattle.toml.proofs.Views.{Entry, view-Array}
use Rattle.ak_measure.specs.Document.{listed}
use Rattle.ak_image.specs.Keys.{tables_in, page_tables, is_other, has_other, has_each, top_keys, page_keys, has_unknown_key, has_all_keys}

pub has_other-view : (known : List (List ℕ)) (es : List Entry) → has_other known (members_view es) ≡ list_any (λ key. is_other known (string_bytes key)) (entry_keys es)
has_other-view known [] = refl
has_other-view known (e ∷ es) = rw (has_other-view known es) refl

-- the tables among values
pub tables-view : (vs : List Value) → filter_map as_table (listed (items_view vs)) ≡ filter_map (λ v. as_table (view v)) vs
tables-view [] = refl
tables-view (v ∷ vs) = rw (tables-view vs) refl

-- a test of what there is
any_step : {B : Type 0} (test : B → Bool) (o : Option B) (rest : List B) → list_any test (cons_option o rest) ≡ (option_map_or test o false || list_any test rest)
any_step test None rest = refl
any_step test (Some x) rest = refl

all_step : {B : Type 0} (test : B → Bool) (o : Option B) (rest : List B) → list_all test (cons_option o rest) ≡ (option_map_or test o true && list_all test rest)
all_step test None rest = refl
all_step test (Some x) rest = refl

pub any-filter_map : {A B : Type 0} (read : A → Option B) (test : B → Bool) (xs : List A) → list_any test (filter_map read xs) ≡ list_any (λ x. option_map_or test (read x) false) xs
any-filter_map read test [] = refl
any-filter_map read test (x ∷ xs) = any_step test (read x) (filter_map read xs) ∙ ap (λ (b : Bool). option_map_or test (read x) false || b) (any-filter_map read test xs)

pub all-filter_map : {A B : Type 0} (read : A → Option B) (test : B → Bool) (xs : List A) → list_all test (filter_map read xs) ≡ list_all (λ x. option_map_or test (read x) true) xs
all-filter_map read test [] = refl
all-filter_map read test (x ∷ xs) = all_step test (read x) (filter_map read xs) ∙ ap (λ (b : Bool). option_map_or test (read x) true && b) (all-filter_map read test xs)

-- the elements of the array `page`
pub page_tables-array : (ms : Members) (value : Value) (v : Vec Value Global) → Some (view value) ≡ get_member (codes "page") ms → value ≡ Array v → page_tables ms ≡ filter_map (λ x. as_table (view x)) v.items
page_tables-array ms value v found same =
    ap tables_in (sym found) ∙ (ap (λ (x : Value). tables_in (Some (view x))) same ∙ (ap (λ (d : Data). tables_in (Some d)) (view-Array v) ∙ tables-view v.items))

pub unknown_key-pages : (ms : Members) (vs : List Value) → page_tables ms ≡ filter_map (λ v. as_table (view v)) vs → has_other top_keys ms ≡ false
    → has_unknown_key ms ≡ list_any (λ v. option_map_or (has_other page_keys) (as_table (view v)) false) vs
unknown_key-pages ms vs tables known =
    ap (λ (b : Bool). b || list_any (has_other page_keys) (page_tables ms)) known
    ∙ (ap (list_any (has_other page_keys)) tables ∙ any-filter_map (λ v. as_table (view v)) (has_other page_keys) vs)

pub all_keys-pages : (ms : Members) (vs : List Value) → page_tables ms ≡ filter_map (λ v. as_table (view v)) vs → has_each top_keys ms ≡ true
    → has_all_keys ms ≡ list_all (λ v. option_map_or (has_each page_keys) (as_table (view v)) true) vs
all_keys-pages ms vs tables there =
    ap (λ (b : Bool). b && list_all (has_each page_keys) (page_tables ms)) there
    ∙ (ap (list_all (has_each page_keys)) tables ∙ all-filter_map (λ v. as_table (view v)) (has_each page_keys) vs)
