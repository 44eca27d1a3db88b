mod Unfailing
