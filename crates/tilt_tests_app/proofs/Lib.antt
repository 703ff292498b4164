pub mod NeverFailing
