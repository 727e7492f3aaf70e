-- Calls that are read one by one to the end.
use Rattle.std.proofs.Common.{◌≡◌, ℕ, zero, suc, ◌+◌, ◌<◌, ◌≤◌, cond, List, [], ◌∷◌, ◌++◌, length, Some, None, Ok, Err, sym, refl, ap, ◌∙◌, append_assoc, append-nil, arith, le-ltb, lt-ltb}
use Rattle.faults.specs.declared.Fault.{Fault}
use Rattle.calls.specs.declared.Call.{Call}
use Rattle.schedule.specs.declared.body.CallAt.{CallAt}
use Rattle.schedule.specs.Reading.{CallsAsRead, call_at, calls_after, calls_from}

pub no_call : (k : ℕ) (bytes : List ℕ) (at : ℕ) → length bytes ≤ at → calls_from k bytes at ≡ record { calls = []; fault = None }
unfolding calls_from
no_call zero bytes at h = refl
no_call (suc k) bytes at h = ap (λ t. cond t (calls_after at (λ next. calls_from k bytes next) (call_at bytes at)) (record { calls = []; fault = None })) (le-ltb at (length bytes) h)

pub some_call : (k : ℕ) (bytes : List ℕ) (at : ℕ) → at < length bytes → calls_from (suc k) bytes at ≡ calls_after at (λ next. calls_from k bytes next) (call_at bytes at)
unfolding calls_from
some_call k bytes at h = ap (λ t. cond t (calls_after at (λ next. calls_from k bytes next) (call_at bytes at)) (record { calls = []; fault = None })) (lt-ltb at (length bytes) h)

-- Calls with those before them.
abbrev behind : List CallAt → CallsAsRead → CallsAsRead
behind calls rest = record { calls = calls ++ rest.calls; fault = rest.fault }

-- How far the reader has come: the calls so far, and what is left, are the whole.
pub record SoFar (bytes : List ℕ) (at : ℕ) (calls : List CallAt) (whole : CallsAsRead) : Type 0 where
  pub fuel : ℕ
  pub enough : length bytes ≤ fuel + at
  pub says : behind calls (calls_from fuel bytes at) ≡ whole

pub none_yet : (bytes : List ℕ) (at : ℕ) → SoFar bytes at [] (calls_from (length bytes) bytes at)
none_yet bytes at = record { fuel = length bytes; enough = omega arith; says = refl }

module _ (bytes : List ℕ) (at : ℕ) (calls : List CallAt) (whole : CallsAsRead) (s : SoFar bytes at calls whole) where
  pub one_more : (call : Call) (next : ℕ) → at < length bytes → at < next → Ok (call, next) ≡ call_at bytes at
      → SoFar bytes next (calls ++ (record { at = at; call = call } ∷ [])) whole
  one_more call next h on e = go s.fuel s.enough s.says
    where
      go : (k : ℕ) → length bytes ≤ k + at → behind calls (calls_from k bytes at) ≡ whole → SoFar bytes next (calls ++ (record { at = at; call = call } ∷ [])) whole
      go zero enough says = absurd (omega arith)
      go (suc k) enough says = record {
        fuel = k;
        enough = omega arith;
        says = ap (λ cs. record { calls = cs; fault = (calls_from k bytes next).fault }) (append_assoc calls (record { at = at; call = call } ∷ []) (calls_from k bytes next).calls)
            ∙ ap (λ r. behind calls (calls_after at (λ there. calls_from k bytes there) r)) e ∙ ap (behind calls) (sym (some_call k bytes at h)) ∙ says;
      }

  pub stops : (f : Fault) → at < length bytes → Err f ≡ call_at bytes at → record { calls = calls; fault = Some f } ≡ whole
  stops f h e = go s.fuel s.enough s.says
    where
      go : (k : ℕ) → length bytes ≤ k + at → behind calls (calls_from k bytes at) ≡ whole → record { calls = calls; fault = Some f } ≡ whole
      go zero enough says = absurd (omega arith)
      go (suc k) enough says =
          ap (λ cs. record { calls = cs; fault = Some f }) (sym (append-nil calls)) ∙ ap (λ r. behind calls (calls_after at (λ there. calls_from k bytes there) r)) e
          ∙ ap (behind calls) (sym (some_call k bytes at h)) ∙ says

  pub all_read : length bytes ≤ at → record { calls = calls; fault = None } ≡ whole
  all_read h = ap (λ cs. record { calls = cs; fault = None }) (sym (append-nil calls)) ∙ ap (behind calls) (sym (no_call s.fuel bytes at h)) ∙ s.says
