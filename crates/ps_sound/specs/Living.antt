-- Who keeps the live part of the world alone.
use Rattle.std.specs.Prelude.{ℕ, ◌≡◌, ◌↔◌, List, [], ◌∷◌}
use Rattle.ps_model.specs.declared.command.Command.{Command}
use Rattle.ps_model.specs.declared.command.Entry.{Entry}
use Rattle.ps_model.specs.declared.reply.Reply.{Reply}
use Rattle.ps_model.specs.declared.world.World.{World}
use Rattle.ps_model.specs.Step.{empty_world, step, reply, entry_of}
use Rattle.ps_model.specs.History.{IsAccepted, IsHistory, after, called, replies}
use Rattle.ps_model.specs.Live.{live}
use Rattle.ps_model.specs.Sound.{IsSound}

-- The live part of a sound world is sound.
abbrev pub LiveIsSound : Type 0
LiveIsSound = (w : World) → IsSound w → IsSound (live w)

-- the world after these entries, each carried out in the live part of what the one before left
abbrev pub live_after : World → List Entry → World
live_after v [] = v
live_after v (e ∷ es) = live_after (live (step v e)) es

-- each entry is accepted there
abbrev pub IsLiveHistory : World → List Entry → Type 0
IsLiveHistory v [] = Unit {0}
IsLiveHistory v (e ∷ es) = IsAccepted v e × IsLiveHistory (live (step v e)) es

-- Who keeps the live part alone accepts the same histories, has the live part of the world after each, and then tells and records the same.
abbrev pub LiveIsEnough : Type 0
LiveIsEnough = (es : List Entry) → record {
  accepts : IsLiveHistory empty_world es ↔ IsHistory empty_world es;
  stays : IsHistory empty_world es → live_after empty_world es ≡ live (after empty_world es);
  tells : (at : ℕ) (c : Command) → IsHistory empty_world es → reply (live_after empty_world es) at c ≡ reply (after empty_world es) at c;
  records : (at : ℕ) (c : Command) → IsHistory empty_world es → entry_of (live_after empty_world es) at c ≡ entry_of (after empty_world es) at c;
}

-- the replies to a run of calls, each made in the live part of what the one before left
abbrev pub live_replies : World → List (ℕ × Command) → List Reply
live_replies v [] = []
live_replies v (c ∷ cs) = reply v c.0 c.1 ∷ live_replies (live (called v c)) cs

-- Who keeps the live part alone gives the same replies to every run of calls.
abbrev pub LiveRepliesTheSame : Type 0
LiveRepliesTheSame = (cs : List (ℕ × Command)) → live_replies empty_world cs ≡ replies empty_world cs
