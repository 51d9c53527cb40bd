-- A listener as contracts see it, and what it answers.
use Rattle.std.specs.Prelude.{◌≡◌, ℕ, ◌+◌, ◌-◌, ◌==◌, min, Bool, true, false, ◌&&◌, List, ◌++◌, length, take, drop, Option, Some, None, if◌then◌else◌, count_by}
use Rattle.listeners.specs.declared.finding.Finding.{Finding}
use Rattle.listeners.specs.declared.finding.Kind.{Kind}
use Rattle.listeners.specs.declared.finding.Kind.TheVariants as kind
use Rattle.listeners.specs.declared.finding.Keep.{Keep}
use Rattle.listeners.specs.declared.finding.Keep.TheVariants as keep

-- What a listener heard, what it writes of what it heard, and after how many set pairs it is done, if ever. No call changes the last two.
pub record ListenerState : Type 0 where
  pub heard : List Finding
  pub writes : List Finding → List ℕ
  pub quota : Option ℕ

-- its text
abbrev pub listener_text : ListenerState → List ℕ
listener_text s = s.writes s.heard

abbrev pub is_set_kind : Kind → Bool
is_set_kind kind.Set = true
is_set_kind kind = false

abbrev pub is_listed_kind : Kind → Bool
is_listed_kind kind.Listed = true
is_listed_kind kind = false

abbrev pub is_clear_kind : Kind → Bool
is_clear_kind kind.Clear = true
is_clear_kind kind = false

-- how many findings are set pairs, clear ones, listed ones
abbrev pub sets_in : List Finding → ℕ
sets_in fs = count_by (λ f. is_set_kind f.kind) fs

abbrev pub clears_in : List Finding → ℕ
clears_in fs = count_by (λ f. is_clear_kind f.kind) fs

abbrev pub lists_in : List Finding → ℕ
lists_in fs = count_by (λ f. is_listed_kind f.kind) fs

abbrev pub is_quota : Option ℕ → ℕ → Bool
is_quota None n = false
is_quota (Some k) n = n == k

-- the finding is the last set pair of the quota of a listener that hears it now
abbrev pub is_last_for : ListenerState → Finding → Bool
is_last_for s f = is_set_kind f.kind && is_quota s.quota (sets_in s.heard + 1)

abbrev pub keep_of : ListenerState → Finding → Keep
keep_of s f = if is_last_for s f then keep.Done else keep.Stay

-- so many bytes of the text from that place on fill the buffer: as many as it holds, or as there are
pub record AreWordsAt (text : List ℕ) (at : ℕ) (before after : List ℕ) (n : ℕ) : Type 0 where
  pub count : n ≡ min (length before) (length text - at)
  pub bytes : after ≡ take n (drop at text) ++ drop n before
