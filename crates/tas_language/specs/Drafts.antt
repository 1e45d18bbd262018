-- The answers about drafts.
use Rattle.std.specs.Prelude.{ℕ, List, ◌++◌, codes, decimal}
use Rattle.tas_language.specs.declared.draft_reply.DraftReply.{DraftReply}
use Rattle.tas_language.specs.declared.draft_reply.DraftReply.TheVariants.{Began, Committed, Moved, Dropped, NoDraft, InDraft}

-- the line of an answer about a draft, with its newline
abbrev pub draft_reply_text : DraftReply → List ℕ
draft_reply_text (Began made len) = codes "begin " ++ decimal made ++ codes " " ++ decimal len ++ codes "\n"
draft_reply_text (Committed made len) = codes "commit " ++ decimal made ++ codes " " ++ decimal len ++ codes "\n"
draft_reply_text (Moved made) = codes "moved " ++ decimal made ++ codes "\n"
draft_reply_text Dropped = codes "dropped\n"
draft_reply_text NoDraft = codes "no draft\n"
draft_reply_text InDraft = codes "in draft\n"
