-- The item that a line may be is found.
use Rattle.std.proofs.Common.{◌≡◌, ℕ, ◌<◌, ◌≤◌, List, [], ◌∷◌, length, Option, Some, None, option_map, IfSome, Result, Ok, Err, inl, inr, codes, refl, ap, sym, subst, ◌∙◌, arith, length-append}
use Rattle.std.specs.declared.alloc.AllocError.{AllocError}
use Rattle.uhura_text.specs.Words.{words, first_bad}
use Rattle.uhura_line.specs.declared.command.Command.{Command}
use Rattle.uhura_line.specs.declared.refusal.LineRefusal.{LineRefusal}
use Rattle.uhura_line.specs.declared.refusal.LineRefusal.TheVariants.{Memory}
use Rattle.uhura_line.specs.Form.{Word, Form, words_of, event, uncertain, choice, require, bound, price, rate, range, prefer, deny, cap, withdraw, show, propose, prove}
use Rattle.uhura_line.specs.Form as form
use Rattle.uhura_line.specs.Reads.{form_of}
use Rattle.uhura_line.specs.Written.{joined, ReadsAs}
use Rattle.uhura_line.specs.Parses.{Parses}
use Rattle.uhura_line.specs.ParsedBack.{IsGiven}
use Rattle.uhura_line.proofs.ReadsBack.{AreWords, reads_back}
use Rattle.uhura_line.proofs.ParsedBackLemmas.{parsed_back, no_longer}
use Rattle.uhura_line.proofs.Spacing.{line_of-joined}
use Rattle.uhura_item.specs.declared.item.Item.{Item}
use Rattle.uhura_item.specs.declared.item.Item.TheVariants as item
use Rattle.uhura_item.specs.declared.head.Head.{Head}
use Rattle.uhura_item.specs.Item.{item_words, spell, IsLineCommand, IsItem}
use Rattle.uhura_item.specs.Reader.{head_in, item_behind, item_in}
use Rattle.uhura_item.specs.Read.{ReadsItem, MayBe, MayBeCommand}
use Rattle.uhura_item.proofs.ItemWords.{item_are, item_short}
use Rattle.uhura_item.proofs.ItemFound.{found}
use Rattle.uhura_item.proofs.OneItem.{words-spell, Which, command, other, which}

-- ---- lines that are no item's

-- a longer line is none
pub long_line : (line : List ℕ) → 4096 < length line → MayBe line None
long_line line long = record {
  found = λ i is same. absurd (omega (arith, item_short i is, ap (length {A = ℕ}) same));
  sound = tt;
}

-- a line with a bad byte is none
pub bad_line : (line : List ℕ) (change : ℕ → ℕ) (at : ℕ) → option_map change (first_bad line) ≡ Some at → MayBe line None
bad_line line change at bad = record {
  found = λ i is same.
      let good : first_bad line ≡ None = ap first_bad (sym same) ∙ (reads_back (item_words i) (item_are i is)).no_bad_byte in
      let none : option_map change (first_bad line) ≡ None = ap (option_map change) good in
      let no : ⊥ = cc in absurd no;
  sound = tt;
}

-- a line without words is none
pub no_words : (line : List ℕ) → words line ≡ [] → MayBe line None
no_words line none = record {
  found = λ i is same.
      let empty : item_words i ≡ [] = sym (words-spell i is) ∙ ap words same ∙ none in
      absurd (subst AreWords empty (item_are i is));
  sound = tt;
}

-- ---- by the first word

-- what the first word says, where it is no verb
head_of : List Word → Option Head
head_of [] = None
head_of (word ∷ words) = head_in word

verb_ahead : (f : Form) → head_of (words_of f) ≡ None
unfolding head_of
verb_ahead (event n) = refl
verb_ahead (uncertain n start end lo hi lower upper) = refl
verb_ahead (choice n alternatives guard) = refl
verb_ahead (require n from to lo hi lower upper guard) = refl
verb_ahead (form.drop n) = refl
verb_ahead (bound n side b) = refl
verb_ahead (price n side p) = refl
verb_ahead (rate n side r) = refl
verb_ahead (range n lo hi) = refl
verb_ahead (prefer c a cost) = refl
verb_ahead (deny v literals) = refl
verb_ahead (cap v kind n side units) = refl
verb_ahead (withdraw v) = refl
verb_ahead show = refl
verb_ahead propose = refl
verb_ahead prove = refl

-- behind a head its item is found
pub behind_head : (line : List ℕ) (word : Word) (rest : List Word) (head : Head) (read : Option Item) → words line ≡ word ∷ rest → Some head ≡ head_in word
    → read ≡ item_behind head rest → IfSome read IsItem → MayBe line read
unfolding head_of
behind_head line word rest head read are is_head is_read sound = record { found = λ i is same. by_which i (which i) is same; sound = sound }
  where
    its_words : (i : Item) → IsItem i → spell i ≡ line → item_words i ≡ word ∷ rest
    its_words i is same = sym (words-spell i is) ∙ ap words same ∙ are

    by_which : (i : Item) → Which i → IsItem i → spell i ≡ line → read ≡ Some i
    by_which i (command c) is same =
        let none : head_in word ≡ None = ap head_of (sym (its_words i is same)) ∙ verb_ahead (form_of c) in
        let no : ⊥ = cc in absurd no
    by_which i (other o) is same =
        let there : item_in (word ∷ rest) ≡ item_behind head rest = rw (← is_head) refl in
        is_read ∙ sym there ∙ ap item_in (sym (its_words i is same)) ∙ found i is o

-- a line that begins with no head may be a command
pub behind_verb : (line : List ℕ) (word : Word) (rest : List Word) (read : Option Item) → words line ≡ word ∷ rest → None ≡ head_in word → MayBeCommand line read → MayBe line read
behind_verb line word rest read are no_head may = record { found = λ i is same. by_which i (which i) is same; sound = may.sound }
  where
    by_which : (i : Item) → Which i → IsItem i → spell i ≡ line → read ≡ Some i
    by_which i (command c) is same = may.found c is same
    by_which i (other o) is same =
        let none : item_in (word ∷ rest) ≡ None = rw (← no_head) refl in
        let some : item_in (word ∷ rest) ≡ Some i = ap item_in (sym (sym (words-spell i is) ∙ ap words same ∙ are)) ∙ found i is o in
        let no : ⊥ = cc in absurd no

pub ruleset finding = (long_line, bad_line, no_words, behind_head, behind_verb)

-- ---- commands

-- what the parser gives of a command's line
gives : (line : List ℕ) (c : Command) (result : Result (Option Command) LineRefusal) → IsLineCommand c → spell (item.Command c) ≡ line → Parses line result → IsGiven c result
gives line c result is same parses =
    let reads : ReadsAs line (words_of (form_of c)) = subst (λ l. ReadsAs l (words_of (form_of c))) same (reads_back (item_words (item.Command c)) (item_are (item.Command c) is)) in
    parsed_back line c result is.command reads (subst (λ (l : List ℕ). length l ≤ 4096) same is.short) parses

-- a command that is parsed is the line's, if the line is spelled so
pub parsed_command : (line : List ℕ) (d : Command) → Parses line (Ok (Some d)) → MayBeCommand line (Some (item.Command d))
parsed_command line d parses = record {
  found = λ c is same. by_given c (gives line c (Ok (Some d)) is same parses);
  sound = record {
    command = parses.1.1;
    short = omega (arith, no_longer line d parses, ap (length {A = ℕ}) (line_of-joined (words_of (form_of d))), length-append (joined (words_of (form_of d))) (codes "\n"), parses.0.short);
  };
}
  where
    by_given : (c : Command) → IsGiven c (Ok (Some d)) → Some (item.Command d) ≡ Some (item.Command c)
    by_given c (inl same) = let e : d ≡ c = cc in ap (λ x. Some (item.Command x)) e
    by_given c (inr memory) = let wrong = memory.1 in let no : ⊥ = cc in absurd no

-- a quiet line is no command's
pub parsed_none : (line : List ℕ) → Parses line (Ok None) → MayBeCommand line None
parsed_none line parses = record { found = λ c is same. by_given c (gives line c (Ok None) is same parses); sound = tt }
  where
    by_given : (c : Command) → IsGiven c (Ok None) → None ≡ Some (item.Command c)
    by_given c (inl same) = let no : ⊥ = cc in absurd no
    by_given c (inr memory) = let wrong = memory.1 in let no : ⊥ = cc in absurd no

-- nor is one that is refused, but for want of memory
pub parsed_refused : (line : List ℕ) (r : LineRefusal) → Parses line (Err r) → ((error : AllocError) → r ≡ Memory error → ⊥) → MayBeCommand line None
parsed_refused line r parses no_memory = record { found = λ c is same. by_given c (gives line c (Err r) is same parses); sound = tt }
  where
    by_given : (c : Command) → IsGiven c (Err r) → None ≡ Some (item.Command c)
    by_given c (inl same) = let no : ⊥ = cc in absurd no
    by_given c (inr memory) =
        let wrong = memory.1 in
        let is : r ≡ Memory memory.0 = cc in
        absurd (no_memory memory.0 is)

pub ruleset parsing = (parsed_command, parsed_none, parsed_refused)

-- ---- the whole

-- where what was found is spelled otherwise, no item is spelled so
pub none_spelled : (line : List ℕ) (i : Item) → MayBe line (Some i) → (spell i ≡ line → ⊥) → ReadsItem line None
none_spelled line i may differs j is same =
    let e : i ≡ j = (let some : Some i ≡ Some j = may.found j is same in cc) in
    differs (ap spell e ∙ same)

pub none_found : (line : List ℕ) → MayBe line None → ReadsItem line None
none_found line may j is same = let some : None ≡ Some j = may.found j is same in let no : ⊥ = cc in absurd no

pub ruleset whole = (none_spelled, none_found)
