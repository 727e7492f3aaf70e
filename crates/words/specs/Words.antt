-- The words of a text by their numbers, and the operations with the words of their sections.
use Rattle.std.specs.Prelude.{ℕ, cond, List, [], ◌∷◌, Some, None, Option, ◌==◌, ◌≡◌, ◌≢◌, Result, MatchResult, codes}
use Rattle.std.specs.Result.{result_ok}
use Rattle.words.specs.declared.NoSuchKind.{NoSuchKind}
use Rattle.words.specs.declared.NoSuchWord.{NoSuchWord}
use Rattle.words.specs.declared.Kind.{Kind}
use Rattle.words.specs.declared.Kind.TheVariants.{Add, Push, Pop, Put, Take}
use Rattle.words.specs.declared.Word.{Word}
use Rattle.words.specs.declared.Word.TheVariants.{Enter, ReadCpu, LoadCounter, AddAmount, StoreCounter, NeedNode, NeedEmptyHand, LoadListHead, LinkNode, PushNode, NeedListed, LoadNext, PopNode, LoadTail, LoadRingHead, NeedRoom, StorePacket, AdvanceTail, NeedPacket, LoadPacket, AdvanceRingHead, Restart}

-- The number that stands in a text for a word.
abbrev pub code : Word → ℕ
code Enter = 1
code ReadCpu = 2
code LoadCounter = 3
code AddAmount = 4
code StoreCounter = 5
code NeedNode = 6
code NeedEmptyHand = 7
code LoadListHead = 8
code LinkNode = 9
code PushNode = 10
code NeedListed = 11
code LoadNext = 12
code PopNode = 13
code LoadTail = 14
code LoadRingHead = 15
code NeedRoom = 16
code StorePacket = 17
code AdvanceTail = 18
code NeedPacket = 19
code LoadPacket = 20
code AdvanceRingHead = 21
code Restart = 22

-- The word that a number stands for, if it stands for one.
abbrev pub word_of : ℕ → Option Word
word_of n =
    cond (n == 1) (Some Enter) (cond (n == 2) (Some ReadCpu) (cond (n == 3) (Some LoadCounter) (cond (n == 4) (Some AddAmount) (cond (n == 5) (Some StoreCounter)
    (cond (n == 6) (Some NeedNode) (cond (n == 7) (Some NeedEmptyHand) (cond (n == 8) (Some LoadListHead) (cond (n == 9) (Some LinkNode) (cond (n == 10) (Some PushNode)
    (cond (n == 11) (Some NeedListed) (cond (n == 12) (Some LoadNext) (cond (n == 13) (Some PopNode) (cond (n == 14) (Some LoadTail) (cond (n == 15) (Some LoadRingHead)
    (cond (n == 16) (Some NeedRoom) (cond (n == 17) (Some StorePacket) (cond (n == 18) (Some AdvanceTail) (cond (n == 19) (Some NeedPacket) (cond (n == 20) (Some LoadPacket)
    (cond (n == 21) (Some AdvanceRingHead) (cond (n == 22) (Some Restart) None)))))))))))))))))))))

-- The result is the word that the number stands for, or an error with that number, which stands for no word.
pub record DecodesWord (n : ℕ) (r : Result Word NoSuchWord) : Type 0 where
  pub defined : result_ok r ≡ word_of n
  pub the_one_with_the_number : MatchResult r (λ word. code word ≡ n) (λ e. (e.0 ≡ n) × ((word : Word) → code word ≢ n))

-- The operations, in the order of their numbers. Descriptor d belongs to operation d.
abbrev pub kinds : List Kind
kinds = Add ∷ Push ∷ Pop ∷ Put ∷ Take ∷ []

abbrev pub kind_number : Kind → ℕ
kind_number Add = 1
kind_number Push = 2
kind_number Pop = 3
kind_number Put = 4
kind_number Take = 5

abbrev pub kind_of : ℕ → Option Kind
kind_of n =
    cond (n == 1) (Some Add) (cond (n == 2) (Some Push) (cond (n == 3) (Some Pop) (cond (n == 4) (Some Put) (cond (n == 5) (Some Take) None))))

-- The result is the operation with the number, or an error with that number, which no operation has.
pub record FindsKind (n : ℕ) (r : Result Kind NoSuchKind) : Type 0 where
  pub defined : result_ok r ≡ kind_of n
  pub the_one_with_the_number : MatchResult r (λ kind. kind_number kind ≡ n) (λ e. (e.0 ≡ n) × ((kind : Kind) → kind_number kind ≢ n))

-- What an operation is called.
abbrev pub kind_name : Kind → List ℕ
kind_name Add = codes "add"
kind_name Push = codes "push"
kind_name Pop = codes "pop"
kind_name Put = codes "put"
kind_name Take = codes "take"

-- The words of each operation's section, in order.
abbrev pub section_words : Kind → List Word
section_words Add = ReadCpu ∷ LoadCounter ∷ AddAmount ∷ StoreCounter ∷ []
section_words Push = ReadCpu ∷ NeedNode ∷ LoadListHead ∷ LinkNode ∷ PushNode ∷ []
section_words Pop = ReadCpu ∷ NeedEmptyHand ∷ LoadListHead ∷ NeedListed ∷ LoadNext ∷ PopNode ∷ []
section_words Put = ReadCpu ∷ LoadTail ∷ LoadRingHead ∷ NeedRoom ∷ StorePacket ∷ AdvanceTail ∷ []
section_words Take = ReadCpu ∷ LoadRingHead ∷ LoadTail ∷ NeedPacket ∷ LoadPacket ∷ AdvanceRingHead ∷ []
