-- Parts that are made of files, one after another, and the table of them.
use Rattle.std.proofs.Common.{refl, ap, sym, subst, ◌∙◌, ◌≡◌, ◌<◌, ◌+◌, ◌++◌, ℕ, true, List, [], ◌∷◌, length, map, take, get_or}
use Rattle.std.proofs.lemmas.List.{map-append, take_more}
use Rattle.std.specs.Prelude.{Option, Some, None, Vec, is_some}
use Rattle.std.specs.declared.alloc.Global.{Global}
use Rattle.cells.specs.declared.schema.ColumnType.{ColumnType}
use Rattle.prepare.specs.Parts.{IsPartOfFile}
use Rattle.prepare.specs.declared.choice.Choice.{Choice}
use Rattle.prepare.specs.declared.choice.Chosen.{Chosen}
use Rattle.prepare.specs.declared.part.MadePart.{MadePart}
use Rattle.questions.specs.Proposals.{AreOfFile, AreParts, AreTyped, AreWanted, IsOf, IsPartOf, IsProposed, IsTable, IsTyped, MadeOf, asked, counting_from}
use Rattle.questions.specs.declared.proposal.Proposal.{Proposal}
use Rattle.questions.specs.declared.proposal.Typed.{Typed}
use Rattle.questions.specs.declared.question.Wanted.{Wanted}

abbrev Bytes : Type 0
Bytes = Vec ℕ Global

-- one part more
parts_snoc : (choice : Choice) (before : ℕ) (files parts : List (List ℕ)) (all : ℕ) (file part : List ℕ) (count : ℕ)
    → AreParts choice before files parts all → IsPartOf (counting_from choice all) file part count → AreParts choice before (files ++ file ∷ []) (parts ++ part ∷ []) (all + count)
parts_snoc choice before [] [] all file part count same is =
    (count, subst (λ n. IsPartOf (counting_from choice n) file part count) (sym same) is, ap (λ n. n + count) same)
parts_snoc choice before [] (p ∷ ps) all file part count bad is = absurd bad
parts_snoc choice before (f ∷ fs) [] all file part count bad is = absurd bad
parts_snoc choice before (f ∷ fs) (p ∷ ps) all file part count so_far is = (so_far.0, so_far.1, parts_snoc choice (before + so_far.0) fs ps all file part count so_far.2 is)

pub made_more : (choice : Choice) (files : List Bytes) (at : ℕ) (file : Bytes) (parts : List Bytes) (now : Choice) (part : MadePart) (counted : ℕ)
    → MadeOf choice files at parts now → at < length files → file ≡ get_or files at file
    → IsPartOfFile now file.items part → counted ≡ now.counted + part.records
    → MadeOf choice files (at + 1) (parts ++ part.text ∷ []) (counting_from now counted)
made_more choice files at file parts now part counted so_far within is made sum =
    let here : IsPartOf (counting_from choice now.counted) file.items part.text.items part.records =
    subst (λ (ch : Choice). IsPartOf ch file.items part.text.items part.records) so_far.same (record { quotes = made.quotes; rows = made.is.rows; is = made.is.is; written = made.is.written; counted = made.is.counted }) in
    let longer : map (λ f. f.items) (take (at + 1) files) ≡ map (λ f. f.items) (take at files) ++ file.items ∷ [] =
    ap (map (λ f. f.items)) (take_more files at file within) ∙ map-append (λ f. f.items) (take at files) (get_or files at file ∷ [])
    ∙ ap (λ (f : Bytes). map (λ b. b.items) (take at files) ++ f.items ∷ []) (sym is) in
    let added = parts_snoc choice 0 (map (λ f. f.items) (take at files)) (map (λ p. p.items) parts) now.counted file.items part.text.items part.records so_far.made here in
    record {
      made = subst (λ (n : ℕ). AreParts choice 0 (map (λ f. f.items) (take (at + 1) files)) (map (λ p. p.items) (parts ++ part.text ∷ [])) n) (sym sum)
          (subst (λ (fs : List (List ℕ)). AreParts choice 0 fs (map (λ p. p.items) (parts ++ part.text ∷ [])) (now.counted + part.records)) (sym longer)
          (subst (λ (ps : List (List ℕ)). AreParts choice 0 (map (λ f. f.items) (take at files) ++ file.items ∷ []) ps (now.counted + part.records))
          (sym (map-append (λ p. p.items) parts (part.text ∷ []))) added));
      same = ap (λ (ch : Choice). counting_from ch counted) so_far.same;
    }

-- ---- types and names

pub typed_fits : (choice : Choice) (files : List (List ℕ)) (t : Typed) → IsTyped choice files t → length t.types.items ≡ length t.names.items
typed_fits choice files t is = is.typed.are.all ∙ ap length (sym is.names)

pub table_of : (choice : Choice) (files : List (List ℕ)) (t : Typed) (key : ℕ) (p : Proposal) → IsTyped choice files t → IsOf t key p → IsTable choice files p
table_of choice files t key p is made = record {
  names = made.names ∙ is.names;
  typed = subst (λ (ts : List ColumnType). AreTyped choice files (map (λ b. b.items) p.parts.items) ts) (sym made.types)
      (subst (λ (ps : List Bytes). AreTyped choice files (map (λ b. b.items) ps) t.types.items) (sym made.parts) is.typed);
}

-- ---- the key

module _ (choice : Choice) (files : List (List ℕ)) (t : Typed) (is : IsTyped choice files t) where
  pub key_asked : (p : Proposal) → is_some choice.number ≡ true → IsOf t 0 p → IsProposed choice files p
  key_asked p some made = go choice.number refl some where
    go : (o : Option (List ℕ)) → choice.number ≡ o → is_some o ≡ true → IsProposed choice files p
    go None e test = cc
    go (Some number) e test = asked e (table_of choice files t 0 p is made) made.key

-- ---- what was asked for

module _ (files : List (List ℕ)) (w : Wanted) (query : Option (List ℕ)) (columns : Vec Chosen Global) where
  pub wanted_listed : (listed : Vec Chosen Global) → w.columns ≡ Some listed → columns ≡ listed → AreWanted files w query w.columns columns
  wanted_listed listed given same = subst (λ (o : Option (Vec Chosen Global)). AreWanted files w query o columns) (sym given) same

  pub wanted_of_file : (read : Vec Chosen Global) → w.columns ≡ None → columns ≡ read → AreOfFile files w.delimiter w.trims query read.items → AreWanted files w query w.columns columns
  wanted_of_file read none same are = subst (λ (o : Option (Vec Chosen Global)). AreWanted files w query o columns) (sym none)
      (subst (λ (cs : Vec Chosen Global). AreOfFile files w.delimiter w.trims query cs.items) (sym same) are)
