-- Each answer of a peer's call leaves what 01 says: the statements of specs/SlotMoves.antt and specs/Moves.antt.
use Rattle.std.specs.Prelude.{Ok}
use Rattle.std.proofs.Common.{◌≡◌, ℕ, ◌+◌, ◌*◌, ◌%◌, ◌<◌, ◌≤◌, false, ◌⊎◌, List, [], length, drop, set, sym, refl, ap, ◌∙◌, subst, inl, inr, ⊎_elim, true≢false, arith, length-set}
use Rattle.std.specs.Prelude.{Some, None}
use Rattle.bitmap.specs.Map.{cleared, marked}
use Rattle.protocol.specs.CtsSentences.{CtsReadBack}
use Rattle.protocol.specs.Sentences.{head_in}
use Rattle.protocol.specs.Reading.{read_of}
use Rattle.protocol.specs.Values.{bytes_at}
use Rattle.protocol.specs.declared.types.Packet.{Packet}
use Rattle.protocol.specs.Types.{served_row}
use Rattle.peer.specs.Calls.{Call, count_posted, missing_in, packet, placed, renumbered, report}
use Rattle.peer.specs.Coverage.{Segment}
use Rattle.peer.specs.Effects.{Effect, accept, advance, begun, extended, grant_of, in_slot, opened, progress_of, quiet, settled_as, truncated_at, with_phase}
use Rattle.peer.specs.Formed.{Formed}
use Rattle.peer.specs.Sentences.{NothingFoundIsNoneOpen, LongIs68And69}
use Rattle.peer.specs.Incomings.{incoming_of}
use Rattle.peer.specs.Matching.{vacancy}
use Rattle.peer.specs.Moves.{AllIn, Beginning, GoingOn, Moved, MovesAreAsSaid, SomeMissing, Taking}
use Rattle.peer.specs.PacketBytes.{offset_in}
use Rattle.peer.specs.Plain.{Entry, idle}
use Rattle.peer.specs.SlotMoves.{Cancelling, Matching, OnlySlot, Posting, Truncating, Untouched, role_at}
use Rattle.peer.specs.State.{is_free, phase_at, slot_with, slot_count}
use Rattle.peer.specs.View.{role_of, roles_of, view_of}
use Rattle.peer.specs.declared.types.Answer.{Answer}
use Rattle.peer.specs.declared.types.Inbound.{Inbound}
use Rattle.peer.specs.declared.types.Incoming.{Incoming}
use Rattle.peer.specs.declared.types.Peer.{Peer}
use Rattle.peer.specs.declared.types.Phase.{Phase}
use Rattle.peer.specs.declared.types.Progress.{Progress}
use Rattle.peer.specs.declared.types.Receive.{Receive}
use Rattle.peer.specs.declared.types.Slot.{Slot}
use Rattle.bitmap.proofs.BitLaws.{length_cleared, length_marked}
use Rattle.laws.proofs.Comparing.{le_or_lt}
use Rattle.protocol.proofs.CtsRead.{cts_read_back}
use Rattle.peer.proofs.Slots.Ages.{length_renumbered, phase_renumbered}
use Rattle.peer.proofs.Refusals.AnswersChecked.{medium_of, of_rtm, rtm_of}
use Rattle.peer.proofs.PeerSteps.BitMoves.{Reached, count_listed, first_lowest, match_marked, more_marked, reached}
use Rattle.peer.proofs.Sentences.BytesHold.{Says, bytes_told, read_says_lem}
use Rattle.peer.proofs.Plain.EntrySearch.{Foremost, foremost}
use Rattle.peer.proofs.PeerSteps.Kept.{FitsBesideOthers, begun_beside, continued_beside}
use Rattle.peer.proofs.History.OriginReplies.{grant_left, grant_some}
use Rattle.peer.proofs.History.OriginsHold.{begun_by}
use Rattle.peer.proofs.Refusals.PacketChecked.{fits_words}
use Rattle.peer.proofs.Sentences.PacketsRead.{read_formed}
use Rattle.peer.proofs.Plain.Roles.{renumbered_role, open_same, role_of_slot}
use Rattle.peer.proofs.Slots.Slots.{entries_oldest, entries_of, entry_of, found_open, phase_other, phase_same, slot_entry_lem, vacant}
use Rattle.peer.proofs.PeerSteps.StepCases.{StepCase, begins, cancelled, continues, posted, refused, reported, step_case, truncated}
use Rattle.peer.proofs.Slots.Valid.{Valid, fits_valid}
use Rattle.peer.proofs.PeerSteps.Verdicts.{Begins, Continues, CutOff, Matched, chosen_at, continued_at}
use Rattle.peer.proofs.Sentences.SentencesHold.{long_is_68_and_69, nothing_found_is_none_open}

-- ---- one slot replaced

module _ (p : Peer) (eight : length p.slots ≡ slot_count) (i : ℕ) (inside : i < length p.slots) (f : Phase) where
  pub set_now : role_of (phase_at (set p.slots i (slot_with f)) i) ≡ role_of f
  set_now = ap role_of (phase_same p.slots i f inside)

  pub set_only : (n : ℕ) → OnlySlot i p (record { next = n; slots = set p.slots i (slot_with f) })
  set_only n =
      record {
        in_slots = omega arith;
        slots = length-set p.slots i (slot_with f) ∙ eight;
        others = λ j x. ap role_of (phase_other p.slots i j f x);
      }

pub quiet_lent : (p : Peer) (ws : List ℕ) (a : Answer) → Untouched ws (quiet p ws a)
quiet_lent p ws a = record { words = refl; bytes = refl; reply = refl }

-- ---- posts

pub used_role : (f : Phase) → is_free f ≡ false → role_of f ≡ idle → ⊥
used_role Phase.Free e x = true≢false e
used_role (Phase.Posted r a) e x = let z : ◌≡◌ {A = ℕ} 0 1 = cc in omega arith
used_role (Phase.Open o) e x = let z : ◌≡◌ {A = ℕ} 0 1 = cc in omega arith

module _ (p : Peer) (ws : List ℕ) (eight : length p.slots ≡ slot_count) where
  pub placed_moves : (r : Receive) (i : ℕ) → vacancy 0 p.slots ≡ Some i → Posting p ws r i (quiet (placed p r i) ws (Answer.Posted i))
  unfolding placed
  placed_moves r i e =
      record {
        free = ap role_of at.1;
        lowest = λ j l x. used_role (phase_at p.slots j) (at.2 j l) x;
        now = set_now q eight' i inside new;
        only = record {
          in_slots = omega (arith, at.0);
          slots = length-set all i (slot_with new) ∙ eight';
          others = λ j x.
              ap role_of (phase_other all i j new x ∙ phase_renumbered p.slots p.slots j) ∙ renumbered_role p.slots (phase_at p.slots j);
        };
        next = refl;
        lent = quiet_lent (placed p r i) ws (Answer.Posted i);
      }
    where
      all : List Slot
      all = renumbered p.slots p.slots

      new : Phase
      new = Phase.Posted r (count_posted p.slots)

      q : Peer
      q = record { next = p.next; slots = all }

      eight' : length q.slots ≡ slot_count
      eight' = length_renumbered p.slots p.slots ∙ eight

      at : (i < length p.slots) × (phase_at p.slots i ≡ Phase.Free) × ((j : ℕ) → j < i → is_free (phase_at p.slots j) ≡ false)
      at = vacant p.slots i e

      inside : i < length q.slots
      inside = omega (arith, at.0, eight')

  -- ---- cancels

  pub free_moves : (i : ℕ) → i < length p.slots → (role_at p i ≡ idle → ⊥) → Cancelling p ws i (quiet (with_phase p i Phase.Free) ws (Answer.Cancelled i))
  free_moves i l n =
      record {
        used = n;
        now = set_now p eight i l Phase.Free;
        only = set_only p eight i l Phase.Free p.next;
        next = refl;
        lent = quiet_lent (with_phase p i Phase.Free) ws (Answer.Cancelled i);
      }

  -- ---- matches

  module _ (bs : List ℕ) (h : Incoming) (says : Says bs h) where
    pub matching : (i : ℕ) (r : Receive) → Matched p h i r → Matching p bs i r
    unfolding NothingFoundIsNoneOpen
    matching i r m =
        record {
          rtm = rtm_of says m.rtm;
          unopened = λ j o x y.
              (nothing_found_is_none_open (roles_of p.slots) h.id).0 (sym (open_same h.id 0 p.slots) ∙ m.unopened) j o
              (role_of_slot p.slots j ∙ x, y ∙ sym says.id);
          age = m.age;
          waits = (chosen_at p h i r m).1;
          fit = (fits_words (view_of p ws) bs h says r).0 first.fit;
          oldest = λ j s b x y.
              let same = slot_entry_lem none p.slots j ∙ ap (entry_of none) x in
              subst (λ (n : ℕ). m.age ≤ n) (ap (λ (e : Entry). e.serial) same)
              (first.first j s (ap (λ (e : Entry). e.role) same) ((fits_words (view_of p ws) bs h says s).1 y));
        }
      where
        none : Inbound → List Segment
        none o = []

        first : Foremost h (entries_of none p.slots) i r m.age
        first = foremost h (entries_of none p.slots) i r m.age (sym (entries_oldest none h 0 None p.slots) ∙ m.chosen)

    pub truncated_moves : (room i : ℕ) → CutOff p h i → Truncating p ws (packet bs room) i h.id h.length (truncated_at p ws i h)
    unfolding truncated_at
    truncated_moves room i k =
        let l = (chosen_at p h i k.receive k.matched).0 in
        record {
          text = bs;
          room = room;
          call = refl;
          receive = k.receive;
          matched = matching i k.receive k.matched;
          id_is = says.id;
          length_is = says.length (rtm_of says k.matched.rtm);
          above = k.too_long;
          now = set_now p eight i l Phase.Free;
          only = set_only p eight i l Phase.Free ((p.next + 1) % 4294967296);
          next = refl;
          lent = quiet_lent (advance (with_phase p i Phase.Free)) ws (Answer.Truncated i h.id h.length);
        }

-- ---- all answers

module _ (limit : ℕ) (p : Peer) (ws : List ℕ) (eight : length p.slots ≡ slot_count) where
  report_moves : (i : ℕ) (o : Inbound) → phase_at p.slots i ≡ Phase.Open o → Moved limit p ws (report i) (quiet p ws (missing_in ws o)) (missing_in ws o)
  report_moves i o e =
      let (os, fall, each, count) = count_listed ws o.receive.start o.message.length in
      let (below, before, at) = first_lowest ws o.receive.start o.message.length in (
        i,
        refl,
        record {
          message = o;
          receives = ap role_of e;
          unmoved = record { peer = refl; lent = quiet_lent p ws (missing_in ws o) };
          offsets = os;
          once = fall;
          each = each;
          count = count;
          in_length = below;
          before = before;
          lowest = at;
        },
      )

  -- ---- an accepted segment

  module _ (bs : List ℕ) (room i : ℕ) (o : Inbound) (n at : ℕ) (now bytes : List ℕ) (inside : i < length p.slots)
      (how : Beginning p ws bs i o n now ⊎ GoingOn p ws bs i o n now) (words : length now ≡ length ws) (place : at ≡ o.receive.start + offset_in bs)
      (content : bytes ≡ drop (head_in bs) bs) where
    abbrev q : Peer
    q = record { next = n; slots = p.slots }

    abbrev Landed : Progress → Effect
    Landed g = in_slot q i (record { settled = settled_as limit i o g; words = now; at = at; bytes = bytes })

    -- a byte that is missing where all granted ones are in is beyond the granted end
    beyond : AllIn now o o.message.granted → SomeMissing now o o.message.length → o.message.granted < o.message.length
    beyond all (x, l, z) = ⊎_elim (λ h. omega arith) (λ h. absurd (omega (arith, all x h))) (le_or_lt o.message.granted x)

    -- slot i has the phase x from now on
    taking : (x : Phase) (a : Answer) (reply : List ℕ)
        → Taking p ws (packet bs room) i o (in_slot q i (record { settled = record { phase = x; answer = a; reply = reply }; words = now; at = at; bytes = bytes }))
    taking x a reply =
        record {
          text = bs;
          room = room;
          call = refl;
          how = how;
          only = set_only p eight i inside x n;
          words = words;
          place = place;
          content = content;
        }

    settled_moves : (g : Progress) → Reached now o g → Moved limit p ws (packet bs room) (Landed g) (Landed g).answer
    unfolding settled_as grant_of
    settled_moves Progress.Whole w = (
      o,
      record {
        taking = taking Phase.Free _ _;
        now = set_now p eight i inside Phase.Free;
        id_is = refl;
        length_is = refl;
        cq_is = refl;
        whole = w;
        reply = refl;
      },
    )
    settled_moves Progress.Due w = (
      i,
      o,
      record {
        taking = taking (Phase.Open (extended (grant_of limit o.message) o)) _ _;
        message = extended (grant_of limit o.message) o;
        now = set_now p eight i inside (Phase.Open (extended (grant_of limit o.message) o));
        more = record {
          receive = refl;
          shape = refl;
          tagged = refl;
          id = refl;
          tag = refl;
          size = refl;
          granted = refl;
          send_id = refl;
          request = refl;
          cq_data = refl;
        };
        amount = refl;
        long = w.0;
        all_in = w.1;
        remains = w.2;
        reply = λ a b c low.
            unfold CtsReadBack in
            cts_read_back o.message.send_id o.message.id (grant_of limit o.message) a b
            (grant_some limit o.message low (beyond w.1 w.2))
            (omega (arith, grant_left limit o.message));
      },
    )
    settled_moves Progress.Partial w =
        (i, o, record { taking = taking (Phase.Open o) _ _; now = set_now p eight i inside (Phase.Open o); missing = w.0; waits = w.1; reply = refl })

  -- ---- a packet that was read

  module _ (area : ℕ) (v : Valid area p.slots) (cover : area ≤ 64 * length ws) (bs : List ℕ) (room : ℕ) (q : Packet)
      (e : read_of served_row limit bs ≡ Ok q) where
    abbrev h : Incoming
    h = incoming_of q

    abbrev bytes : List ℕ
    bytes = bytes_at bs q.«data»

    says : Says bs (incoming_of q)
    says = read_says_lem limit bs q e

    form : Formed (incoming_of q) (length (bytes_at bs q.«data»))
    form = read_formed limit bs q e

    begun_moves : (i : ℕ) (r : Receive) → Begins p h i r → Moved limit p ws (packet bs room) (in_slot (advance p) i (begun limit ws i r h bytes)) (begun limit ws i r h bytes).settled.answer
    unfolding begun accept
    begun_moves i r b =
        settled_moves bs room i (opened r h) ((p.next + 1) % 4294967296) (r.start + h.offset) now bytes (chosen_at p h i r b.matched).0
        (inl (record {
          matched = matching p ws eight bs h says i r b.matched;
          message = begun_by limit bs q e b.matched.rtm r;
          granted = says.size;
          fitting = b.in_capacity;
          some = λ long. form.some (unfold LongIs68And69 in (long_is_68_and_69 h.shape h.tagged).1 long);
          moves = refl;
          bits = match_marked ws bs r (r.start + h.offset) (length bytes) (ap (λ (x : ℕ). r.start + x) says.offset) (sym form.size ∙ says.size)
              (omega (arith, form.size, form.inside b.matched.rtm, b.in_capacity))
              (omega (arith, s.within.in_area));
        }))
        (length_marked mid (r.start + h.offset) (length bytes) ∙ length_cleared ws r.start r.capacity) (ap (λ (x : ℕ). r.start + x) says.offset)
        (bytes_told limit bs q e).rest (progress_of now (opened r h)) (reached now (opened r h))
      where
        s : FitsBesideOthers area p.slots i (opened r h)
        s = begun_beside area p h (length bytes) i r v form b

        mid : List ℕ
        mid = cleared ws r.start r.capacity

        now : List ℕ
        now = marked mid (r.start + h.offset) (length bytes)

    more_moves : (i : ℕ) (o : Inbound) → Continues p ws h i o
        → Moved limit p ws (packet bs room) (in_slot p i (accept limit ws i o h.offset bytes)) (accept limit ws i o h.offset bytes).settled.answer
    unfolding accept
    more_moves i o c =
        settled_moves bs room i o p.next (o.receive.start + h.offset) now bytes (continued_at p ws h i o c).0
        (inr (record {
          receives = ap role_of (continued_at p ws h i o c).1;
          id = (found_open h.id p.slots i o c.found).2 ∙ says.id;
          again = λ rtm. medium_of says (c.again (of_rtm says rtm));
          stays = refl;
          bits = more_marked ws bs o.receive (o.receive.start + h.offset) (length bytes) (ap (λ (x : ℕ). o.receive.start + x) says.offset)
              (sym form.size ∙ says.size)
              (omega (arith, form.size, c.in_length s.within.in_length, s.within.in_range, s.within.in_area));
        }))
        (length_marked ws (o.receive.start + h.offset) (length bytes)) (ap (λ (x : ℕ). o.receive.start + x) says.offset)
        (bytes_told limit bs q e).rest (progress_of now o) (reached now o)
      where
        s : FitsBesideOthers area p.slots i o
        s = continued_beside area p ws h i o v c

        now : List ℕ
        now = marked ws (o.receive.start + h.offset) (length bytes)

-- ---- every call

pub moves_are_as_said : MovesAreAsSaid
unfolding MovesAreAsSaid
moves_are_as_said area limit p ws c fit eight words = go (step_case area limit p ws c)
  where
    v : Valid area p.slots
    v = fits_valid area p fit

    go : {c : Call} {f : Effect} → StepCase area limit p ws c f → Moved limit p ws c f f.answer
    go (refused c k m) = record { peer = refl; lent = quiet_lent p ws (Answer.Refused k) }
    go (posted r i e a w) = (r, refl, placed_moves p ws eight r i e)
    go (cancelled i l u) = (refl, free_moves p ws eight i (omega arith) (used_role (phase_at p.slots i) u))
    go (reported i o e) = report_moves limit p ws eight i o e
    go (truncated bs room q a i j) = unfold truncated_at in truncated_moves p ws eight bs (incoming_of q) (read_says_lem limit bs q a.reads) room i j
    go (begins bs room q a i r b) = begun_moves limit p ws eight area v words bs room q a.reads i r b
    go (continues bs room q a i o k) = more_moves limit p ws eight area v words bs room q a.reads i o k
